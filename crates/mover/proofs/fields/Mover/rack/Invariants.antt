-- Rests on `Far`: how far the move has come.
use Prim.Native.Nat.{◌-◌}
use Rattle.mover.specs.Fields.{repeated, area_fields}
use Rattle.mover.proofs.Turns.{Far}
use Rattle.mover.proofs.fields.Mover.rack.Given as goal

abbrev pub invariant-loop : goal.invariant-loop
invariant-loop l =
    Far (repeated l.counter (area_fields l.pages)) (repeated (l.cards - l.counter) (area_fields l.pages)) l.initial.self l.self
