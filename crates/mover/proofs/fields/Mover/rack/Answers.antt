-- Rests on `turn_moved`, the law of a turn.
use Rattle.mover.specs.Fields.{area_fields}
use Rattle.mover.proofs.Turns.{start_turns, turn_fits, turn_moved}
use Rattle.mover.proofs.fields.Mover.rack.Goals as goal

pub area-requires : goal.area-requires
area-requires c = turn_fits (area_fields c.args.pages) c.loop-test.true c.loop.invariant

pub loop-preserved : goal.loop-preserved
loop-preserved c = turn_moved (area_fields c.args.pages) c.loop-test.true c.loop.invariant c.area.ensures

pub loop-init : goal.loop-init
loop-init c = start_turns c.args.cards (area_fields c.args.pages) c.requires
