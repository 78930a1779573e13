-- Rests on `StepsMade`: what is left of the steps gives what all of them give; the list stays, and so does its table.
use Rattle.release.specs.Stepping.{viewed}
use Rattle.release.proofs.Left.{StepsMade}
use Rattle.release.proofs.steps.make_listed.Given as goal

abbrev pub invariant-loop-left : goal.invariant-loop-left
invariant-loop-left l = StepsMade (viewed l.directory) l.backup l.card l.k l.initial.memory l.count l.memory l.left

abbrev pub decreases-loop-left : goal.decreases-loop-left
decreases-loop-left l = l.left
