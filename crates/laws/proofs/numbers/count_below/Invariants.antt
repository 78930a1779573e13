-- Rests on `Counted`: the numbers below this one are counted.
use Rattle.std.proofs.Common.{◌≤◌, ℕ, Bool}
use Rattle.laws.proofs.Search.{Counted}
use Rattle.laws.specs.Search.{AgreesBelow}
use Rattle.laws.proofs.numbers.count_below.Given as goal

abbrev pub invariant-loop-i : goal.invariant-loop-i
invariant-loop-i g l = (l.count ≤ l.i) × ((passes : ℕ → Bool) → AgreesBelow (goal.F-post g l.test) passes l.end → Counted passes l.end l.i l.count)
