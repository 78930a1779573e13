-- Rests on `close-opened` and `close_shut`: an open release has all its steps made, and no other card has one; and on
-- `all_asked`: the count is past all the steps that a good release has left.
use mathlib.Core.Path.{sym, ◌∙◌}
use native.Mathlib.Omega.{arith}
use Rattle.directory.specs.Lent.{lent}
use Rattle.release.proofs.Left.{all_asked}
use Rattle.recovery.proofs.closing.Releases.{close-opened, close_shut}
use Rattle.recovery.proofs.closing.run_to_close.Goals as goal

pub is_open-requires : goal.is_open-requires
is_open-requires c =
    let card = c.requires.card_in in
    rw c.area_size-size.ensures record { pages_start_le_size = (omega arith, card.area); card_in_bounds = card.marked }

pub make_steps-requires : goal.make_steps-requires
make_steps-requires c =
    let pre = c.requires in
    let opened = (rw c.area_size-size.ensures at (sym c.is_open.ensures)) ∙ c.if-is_open.true in
    record {
      homes_in = pre.homes_of;
      card_in = pre.card_in;
      backup_in = rw c.backup-backup.ensures pre.backup_in;
      good_release = pre.good_release opened;
    }

pub returns-then-is_open : goal.returns-then-is_open
returns-then-is_open c =
    let a = c.args in
    let m = c.args.memory.now in
    let d = lent a.directory in
    let opened = (rw c.area_size-size.ensures at (sym c.is_open.ensures)) ∙ c.if-is_open.true in
    let made = c.make_steps.ensures in
    let all = made.made ∙ all_asked d.pages m a.card (c.requires.good_release opened) in
    rw (made.memory, all, c.backup-backup.ensures) (close-opened d _ a.card m opened)

pub returns-else-is_open : goal.returns-else-is_open
returns-else-is_open c =
    let a = c.args in
    let d = lent a.directory in
    let shut = (rw c.area_size-size.ensures at (sym c.is_open.ensures)) ∙ c.if-is_open.false in
    close_shut d _ a.card a.memory.now shut
