-- Worked examples of numbers in decimal, computed from the definitions.
-- Assumes nothing: these are definitions.
use Rattle.std.specs.Prelude.{List, [], ◌∷◌}
use Rattle.laws.specs.Examples.{Example, computed}
use Rattle.decimal.specs.Decimal.{decimal_before}

abbrev pub examples : List Example
examples =
    -- 0 has one digit, and no other number begins with one; the text behind is kept
    computed (decimal_before 0 []) (48 ∷ [])
    ∷ computed (decimal_before 9 (32 ∷ 65 ∷ [])) (57 ∷ 32 ∷ 65 ∷ [])
    ∷ computed (decimal_before 1030 (10 ∷ [])) (49 ∷ 48 ∷ 51 ∷ 48 ∷ 10 ∷ [])
    -- 18446744073709551615, the highest number of 64 bits
    ∷ computed (decimal_before 18446744073709551615 [])
    (49 ∷ 56 ∷ 52 ∷ 52 ∷ 54 ∷ 55 ∷ 52 ∷ 52 ∷ 48 ∷ 55 ∷ 51 ∷ 55 ∷ 48 ∷ 57 ∷ 53 ∷ 53 ∷ 49 ∷ 54 ∷ 49 ∷ 53 ∷ [])
    ∷ []
