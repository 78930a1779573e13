-- What has been read of the part is answered.
use Rattle.std.specs.Prelude.{◌≡◌, ◌++◌, ℕ, List, length}
use Rattle.interpreter.specs.Transcript.{state_of}
use Rattle.shelfrun.specs.Answers.{Answers}
use Rattle.shelfrun.proofs.answer_part.Given as goal

abbrev pub invariant-outputs : goal.invariant-outputs
invariant-outputs g l =
    (length l.memory ≡ length l.initial.memory) × (length l.output ≡ 65536)
    × ((bytes : List ℕ) × (l.input ≡ bytes ++ l.rest)
    × Answers (state_of l.initial.session l.initial.memory) bytes (state_of l.session l.memory)
    (g.W.Write.contents l.initial.to) (g.W.Write.contents l.to))

abbrev pub decreases-outputs : goal.decreases-outputs
decreases-outputs g l = length l.rest
