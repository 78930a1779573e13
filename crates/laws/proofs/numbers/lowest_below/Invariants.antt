-- Rests on `Passed`: the search from here on finds what the whole search finds.
use Rattle.std.proofs.Common.{ℕ, Bool}
use Rattle.laws.proofs.Search.{Passed}
use Rattle.laws.specs.Search.{AgreesBelow}
use Rattle.laws.proofs.numbers.lowest_below.Given as goal

abbrev pub invariant-loop-i : goal.invariant-loop-i
invariant-loop-i g l = (passes : ℕ → Bool) → AgreesBelow (goal.F-post g l.test) passes l.end → Passed passes l.end l.i
