-- A diff and the lent buffer that it is written to: how many words there may be (document 01, refusal 17), and what stands
-- in the buffer afterwards.
-- Assumes nothing: these are definitions.
use Rattle.std.specs.Prelude.{ℕ, List, ◌++◌, cond, length, drop, ltb, eqb}
use Rattle.answer.specs.declared.Outcome.{Outcome}
use Rattle.answer.specs.Outcome.{given, refused, wrong_buffer}
use Rattle.diff.specs.Format.{most_words}

-- Refusal 17, "a list buffer shorter than the list", and before it a list over 512 words, by the number that the call has
-- for it; else the length of the list.
abbrev pub room_for : ℕ → ℕ → ℕ → Outcome
room_for tooLong words room =
    cond (ltb most_words words) (refused tooLong) (cond (ltb room words) (refused wrong_buffer) (given words))

-- a buffer after the making of a diff came to this outcome: the diff and the words that stood past its end; a refusal
-- changes none
abbrev pub written_by : Outcome → List ℕ → List ℕ → List ℕ
written_by outcome diff buffer = cond (eqb outcome.number 0) (diff ++ drop (length diff) buffer) buffer
