-- Rests on `turn_moved`, the law of a turn.
use Rattle.area.specs.Layout.{record_count}
use Rattle.mover.specs.Fields.{record_fields}
use Rattle.mover.proofs.Turns.{start_turns, turn_fits, turn_moved}
use Rattle.mover.proofs.fields.Mover.records.Goals as goal

pub loop-init : goal.loop-init
loop-init c = start_turns record_count record_fields c.requires

pub record-requires : goal.record-requires
record-requires c = turn_fits record_fields c.loop-test.true c.loop.invariant

pub loop-preserved : goal.loop-preserved
loop-preserved c = turn_moved record_fields c.loop-test.true c.loop.invariant c.record.ensures
