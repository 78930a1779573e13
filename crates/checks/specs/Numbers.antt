-- Checks whose refusals are numbers alone.
-- Assumes nothing: these are definitions.
use Rattle.std.specs.Prelude.{ℕ, Ok, Err, Result}
use Rattle.answer.specs.declared.Outcome.{Outcome}
use Rattle.answer.specs.Outcome.{given, refused}

-- such a check in numbers, as `checked` is of a refusal
abbrev pub checked_by_number : Result (Unit {0}) ℕ → Outcome
checked_by_number (Ok passed) = given 0
checked_by_number (Err number) = refused number
