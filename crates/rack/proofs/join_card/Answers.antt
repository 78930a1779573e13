-- Rests on its checks: an accepted join finds a dead card, and no release open.
use mathlib.Core.Path.{◌≡◌, refl}
use borrow.Author.Rules.{rules}
use lib.ListN.{length}
use Rattle.recovery.proofs.Kept.{some_live}
use Rattle.rack.proofs.ValidRack.{valid_rack, rack_in}
use Rattle.rack.proofs.Results.{join_facts, join-refused, join-accepted}
use Rattle.rack.proofs.join_card.Goals as goal

pub returns-in-Err : goal.returns-in-Err
returns-in-Err c =
    let a = c.args in
    let reached = rw (c.lend.ensures.header, c.lend.ensures.primary, c.lend.ensures.secondary) at c.join.ensures in
    rw (join-refused a.directory a.memory.now a.card reached c.in-Err.is)
    record { answer = refl; directory = refl; memory = refl }

pub join_memory-requires : goal.join_memory-requires
join_memory-requires c =
    let a = c.args in
    let d = c.args.directory in
    let arrays = c.well_formed.1.0.1.1.1.1 in
    let marks : length d.live ≡ 8 = search rules in
    let reached = rw (c.lend.ensures.header, c.lend.ensures.primary, c.lend.ensures.secondary) at c.join.ensures in
    let passed = join_facts d a.memory.now a.card reached c.in-Ok.is in
    let fit = valid_rack passed.runs.fits in
    record {
      rack_in = rack_in d a.memory.now fit marks;
      some_live = some_live fit.beside;
      joining_lt_cards = passed.below;
    }

pub returns-in-Ok : goal.returns-in-Ok
returns-in-Ok c =
    let a = c.args in
    let reached = rw (c.lend.ensures.header, c.lend.ensures.primary, c.lend.ensures.secondary) at c.join.ensures in
    rw (join-accepted a.directory a.memory.now a.card reached c.in-Ok.is)
    record {
      answer = refl;
      directory = rw c.mark_live.ensures refl;
      memory = c.join_memory.ensures;
    }
