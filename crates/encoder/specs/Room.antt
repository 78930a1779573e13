-- What becomes of a diff by the room that there is for it, by what a caller has for refusals.
-- Assumes nothing: these are definitions.
use Rattle.std.specs.Prelude.{ℕ, cond, ltb, Ok, Err, Result}
use Rattle.answer.specs.declared.Outcome.{Outcome}
use Rattle.answer.specs.Outcome.{given, refused}
use Rattle.diff.specs.Format.{most_words}

-- the caller's refusal for a list over 512 words, then that of a wrong buffer, else the length of the list
abbrev pub room_answer : {E : Type 0} → E → E → ℕ → ℕ → Result ℕ E
room_answer too_long of_buffer words room =
    cond (ltb most_words words) (Err too_long) (cond (ltb room words) (Err of_buffer) (Ok words))

-- the outcome, where the refusals are numbers
abbrev pub outcome_by_number : Result ℕ ℕ → Outcome
outcome_by_number (Ok value) = given value
outcome_by_number (Err number) = refused number
