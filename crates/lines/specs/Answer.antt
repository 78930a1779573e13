-- The line that answers (document 01, "Numbers to hold it against": "line number, letter (- if unreadable), 0 or the
-- refusal, value").
-- Assumes nothing: these are definitions.
use Rattle.std.specs.Prelude.{ℕ, List, [], ◌∷◌}
use Rattle.decimal.specs.Decimal.{decimal_before}

-- fields split by a space (32), and a line feed (10)
unfoldable pub answer_line : ℕ → ℕ → ℕ → ℕ → List ℕ
answer_line number letter refusal value =
    decimal_before number (32 ∷ letter ∷ 32 ∷ decimal_before refusal (32 ∷ decimal_before value (10 ∷ [])))
