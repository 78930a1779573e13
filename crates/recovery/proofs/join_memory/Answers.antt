-- Rests on `joined_by_marks`: the records that are due are held by the card that joins.
use mathlib.Core.Path.{◌∙◌}
use native.Mathlib.Omega.{arith}
use Rattle.recovery.proofs.Kept.{rack_kept}
use Rattle.recovery.proofs.Marks.{marked_rack, marked_some, joined_by_marks}
use Rattle.recovery.proofs.join_memory.Goals as goal

pub write_own_records-requires : goal.write_own_records-requires
write_own_records-requires c =
    let pre = c.requires in
    let d = c.args.directory in
    let x = c.args.joining in
    let rack = rack_kept pre.rack_in (c.copy_dead_records.auto.memory ∙ c.reset_area.auto.memory) in
    rw c.mark_live-after.ensures
    record {
      rack_in = marked_rack d x rack;
      some_live = marked_some d x pre.some_live (omega (arith, rack.marks, rack.eight));
      live_len = rack.marks;
    }

pub returns : goal.returns
returns c =
    let a = c.args in
    rw (c.write_own_records.ensures, c.copy_dead_records.ensures, c.reset_area.ensures)
    (rw c.mark_live-after.ensures (joined_by_marks a.directory a.joining a.memory.now))
