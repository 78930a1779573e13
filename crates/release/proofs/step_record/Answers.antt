-- Rests on the mark of the backup, and on `desk_word`: word j of the desk is word j from where the area has the desk.
use mathlib.Core.Path.{◌≡◌, refl, sym, ◌∙◌}
use borrow.Author.Rules.{rules}
use Rattle.std.specs.Prelude.{true, false}
use Rattle.directory.specs.Directory.{live_at}
use Rattle.area.specs.Releases.{open_release}
use Rattle.release.proofs.Stores.{write_made, word_made, write_dropped, desk_word, record_card}
use Rattle.release.proofs.step_record.Goals as goal

pub returns-then-not-header-backup : goal.returns-then-not-header-backup
returns-then-not-header-backup c =
    let a = c.args in
    let dead : live_at a.header.live a.backup ≡ false = search rules in
    sym (write_dropped _ _ _ _ (rw (record_card a.backup a.card _ a.store) dead))

pub returns-in-Desk : goal.returns-in-Desk
unfolding open_release
returns-in-Desk c =
    let a = c.args in
    let live : live_at a.header.live a.backup ≡ true = search rules in
    let within = rw c.in-Desk.is at c.requires.pages_bound.1 in
    rw (c.in-Desk.is, desk_word _ a.memory.now a.card c.in-Desk.j within)
    ((rw (
      c.load_word-word.ensures,
      c.record_desk-desk.ensures,
      c.load_number-number.ensures,
      c.area_size-size.ensures,
    ) at
    c.store_word.ensures)
    ∙ sym (word_made _ _ _ _ _ refl live))

pub returns-in-Stamp : goal.returns-in-Stamp
unfolding open_release
returns-in-Stamp c =
    let a = c.args in
    let live : live_at a.header.live a.backup ≡ true = search rules in
    rw c.in-Stamp.is
    ((rw (c.record_stamp-stamp.ensures, c.load_number-number.ensures, c.area_size-size.ensures) at
    c.store_number.ensures)
    ∙ sym (write_made _ _ _ _ live))

pub returns-in-Done : goal.returns-in-Done
unfolding open_release
returns-in-Done c =
    let a = c.args in
    let live : live_at a.header.live a.backup ≡ true = search rules in
    rw c.in-Done.is
    ((rw (c.record_done-done.ensures, c.load_number-number.ensures, c.area_size-size.ensures) at
    c.store_number-in-Done.ensures)
    ∙ sym (write_made _ _ _ _ live))
