-- Numbers in decimal, as bytes of text.
-- Assumes nothing: these are definitions.
use Rattle.std.specs.Prelude.{ℕ, zero, suc, ◌+◌, ◌/◌, ◌%◌, List, ◌∷◌, cond, ltb}

-- a number's last digits, at most so many and with no leading zero, before a text
unfoldable pub digits_before : ℕ → ℕ → List ℕ → List ℕ
digits_before zero n text = text
digits_before (suc more) n text =
    cond (ltb n 10) ((48 + n) ∷ text) (digits_before more (n / 10) ((48 + n % 10) ∷ text))

-- a number before a text; one of 64 bits has at most twenty digits
abbrev pub decimal_before : ℕ → List ℕ → List ℕ
decimal_before n text = digits_before 20 n text
