-- Rests on `Filled`: up to the card reached the marks are the table's.
use Prim.Native.Nat.{◌+◌}
use mathlib.Core.Bool.{false}
use lib.Dec.{ltb}
use lib.ListN.{get_or, replicate}
use Rattle.directory.proofs.Table.{Filled}
use Rattle.bandsawpink.proofs.words.marks_in.Given as goal

abbrev pub invariant-loop-card : goal.invariant-loop-card
invariant-loop-card l = Filled (λ at. ltb 0 (get_or l.words (3 + at) 0)) l.card (replicate 8 false) l.marks
