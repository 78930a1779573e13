-- The record is written on the live cards passed.
use mathlib.Core.Path.{◌≡◌}
use Rattle.laws.specs.Search.{in_turn}
use Rattle.recovery.specs.Rack.{store_failed}
use Rattle.recovery.proofs.records.write_failed_records.Given as goal

abbrev pub invariant-loop-holder : goal.invariant-loop-holder
invariant-loop-holder l =
    l.memory ≡ in_turn (store_failed l.header l.failed l.words) l.holder l.initial.memory
