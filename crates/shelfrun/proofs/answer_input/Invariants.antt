-- The bytes that have been read so far are answered.
use Rattle.std.specs.Prelude.{◌≡◌, ℕ, List, length}
use Rattle.std.specs.Io.KnownBytes.{Consumes}
use Rattle.interpreter.specs.Transcript.{state_of}
use Rattle.shelfrun.specs.Answers.{Answers}
use Rattle.shelfrun.proofs.answer_input.Given as goal

abbrev pub invariant-parts : goal.invariant-parts
invariant-parts g l =
    (length l.input ≡ 65536)
    × ((bytes : List ℕ) × Consumes (g.R.Read.remaining l.initial.from) (g.R.Read.remaining l.from) bytes
    × Answers (state_of l.initial.session l.initial.memory) bytes (state_of l.session l.memory)
    (g.W.Write.contents l.initial.to) (g.W.Write.contents l.to))
