-- An answer's six parts, put one behind the other.
use Rattle.std.specs.Prelude.{ℕ, ◌+◌, ◌≡◌, List, [], ◌∷◌, ◌++◌, length}
use Rattle.laws.proofs.Prelude.{◌∙◌, arith}
use Rattle.std.proofs.Common.{length-append}
use lib.Seq.{sets}
use Rattle.laws.proofs.Lists.{sets-append}
use Rattle.decimal.specs.Decimal.{decimal_before}
use Rattle.decimal.proofs.Digits.{decimal-append}
use Rattle.lines.specs.Answer.{answer_line}

module _ (number letter refusal value : ℕ) where
  abbrev n : List ℕ
  n = decimal_before number []

  abbrev l : List ℕ
  l = 32 ∷ letter ∷ 32 ∷ []

  abbrev r : List ℕ
  r = decimal_before refusal []

  abbrev v : List ℕ
  v = decimal_before value []

  pub in_parts : answer_line number letter refusal value ≡ n ++ (l ++ (r ++ (32 ∷ (v ++ 10 ∷ []))))
  unfolding answer_line
  in_parts =
      decimal-append number _
      ∙ rw (decimal-append refusal (32 ∷ decimal_before value (10 ∷ [])), decimal-append value (10 ∷ []))

  module _ (output : List ℕ) (at : ℕ) where
    pub put_in_parts : sets output at (answer_line number letter refusal value)
        ≡ sets (sets (sets (sets (sets (sets output at n) (at + length n) l) (at + length n + 3) r) (at + length n + 3 + length r) (32 ∷ []))
        (at + length n + 3 + length r + 1) v) (at + length n + 3 + length r + 1 + length v) (10 ∷ [])
    put_in_parts =
        rw (
          in_parts,
          sets-append n (l ++ (r ++ (32 ∷ (v ++ 10 ∷ [])))) output at,
          sets-append l (r ++ (32 ∷ (v ++ 10 ∷ []))) _ (at + length n),
          sets-append r (32 ∷ (v ++ 10 ∷ [])) _ (at + length n + 3),
          sets-append (32 ∷ []) (v ++ 10 ∷ []) _ (at + length n + 3 + length r),
          sets-append v (10 ∷ []) _ (at + length n + 3 + length r + 1),
        )

    pub long : at + length n + 3 + length r + 1 + length v + 1 ≡ at + length (answer_line number letter refusal value)
    long = rw in_parts (simp length-append (omega arith))
