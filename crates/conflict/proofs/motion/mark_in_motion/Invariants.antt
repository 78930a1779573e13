-- The loop's invariant: the releases of the cards passed have their pages marked.
use mathlib.Core.Path.{◌≡◌}
use Rattle.laws.specs.Search.{in_turn}
use Rattle.conflict.specs.Motion.{mark_motion}
use Rattle.conflict.proofs.motion.mark_in_motion.Given as goal

abbrev pub invariant-loop-card : goal.invariant-loop-card
invariant-loop-card l = l.marks ≡ in_turn (mark_motion l.header.live l.header.pages l.memory) l.card l.initial.marks
