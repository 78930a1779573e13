-- The loop's invariant: the pages passed are joined.
use mathlib.Core.Path.{◌≡◌}
use Rattle.laws.specs.Search.{in_turn}
use Rattle.conflict.specs.Motion.{join_mark}
use Rattle.conflict.proofs.motion.join_marks.Given as goal

abbrev pub invariant-loop-page : goal.invariant-loop-page
invariant-loop-page l = l.marks ≡ in_turn (join_mark l.more) l.page l.initial.marks
