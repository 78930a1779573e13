-- What is known of a writer once some bytes of the input have been answered.
-- Assumes nothing: these are definitions.
use Rattle.std.specs.Prelude.{ℕ, List, ◌≡◌, Option}
use Rattle.std.specs.Io.KnownBytes.{Appends}
use Rattle.interpreter.specs.Transcript.{State, state_after, printed}

-- from a state, bytes of the input lead to another, and what they print goes behind what was written
pub record Answers (before : State) (bytes : List ℕ) (after : State) (old new : Option (List ℕ)) : Type 0 where
  pub state : after ≡ state_after before bytes
  pub written : Appends old new (printed before bytes)
