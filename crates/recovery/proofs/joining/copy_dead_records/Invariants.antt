-- The records of the dead cards passed are copied.
use mathlib.Core.Path.{◌≡◌}
use Rattle.laws.specs.Search.{in_turn}
use Rattle.protocol.specs.Join.{copy_dead_record}
use Rattle.recovery.proofs.joining.copy_dead_records.Given as goal

abbrev pub invariant-loop-card : goal.invariant-loop-card
invariant-loop-card l =
    l.memory ≡ in_turn (copy_dead_record l.directory l.joining) l.card l.initial.memory
