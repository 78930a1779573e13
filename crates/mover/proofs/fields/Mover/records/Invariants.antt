-- Rests on `Far`: how far the move has come.
use Prim.Native.Nat.{◌-◌}
use Rattle.area.specs.Layout.{record_count}
use Rattle.mover.specs.Fields.{repeated, record_fields}
use Rattle.mover.proofs.Turns.{Far}
use Rattle.mover.proofs.fields.Mover.records.Given as goal

abbrev pub invariant-loop : goal.invariant-loop
invariant-loop l =
    Far (repeated l.counter record_fields) (repeated (record_count - l.counter) record_fields) l.initial.self l.self
