-- Digits before a text: they are std's, and stand before it whatever it is.
use Rattle.std.specs.Prelude.{ℕ, zero, suc, ◌+◌, ◌/◌, ◌%◌, ◌^◌, ◌≤◌, ◌<◌, ◌≡◌, List, [], ◌∷◌, ◌++◌, Bool, true, false, cond, ltb, length}
use Rattle.std.specs.Fmt.{decimal}
use Rattle.std.proofs.Common.{◌∙◌}
use Rattle.std.proofs.lemmas.Fmt.{PrependsLastDigit, decimal_from_prepends, length-decimal-le}
use Rattle.laws.proofs.Prelude.{refl, arith, lt-ltb, le-ltb}
use mathlib.Core.List.{append-nil}
use Rattle.decimal.specs.Decimal.{digits_before, decimal_before}

prepends : PrependsLastDigit digits_before
unfolding digits_before
prepends =
    record {
      one = λ k n text small. simp (lt-ltb n 10 small);
      more = λ k n text large. simp (le-ltb n 10 large);
    }

pub is_decimal : (n : ℕ) → n < 2 ^ 64 → (decimal_before n [] ≡ decimal n) × (length (decimal n) ≤ 20)
is_decimal n bound =
    let short : length (decimal n) ≤ 20 = search (arith, length-decimal-le) in
    (decimal_from_prepends digits_before prepends 20 n [] bound short ∙ append-nil (decimal n), short)

digits-append : (left n : ℕ) (text rest : List ℕ) → digits_before left n (text ++ rest) ≡ digits_before left n text ++ rest
unfolding digits_before
digits-append zero n text rest = refl
digits-append (suc more) n text rest = go (ltb n 10) (digits-append more (n / 10) ((48 + n % 10) ∷ text) rest)
  where
    go : (test : Bool)
        → digits_before more (n / 10) ((48 + n % 10) ∷ (text ++ rest))
        ≡ digits_before more (n / 10) ((48 + n % 10) ∷ text) ++ rest
        → cond test ((48 + n) ∷ (text ++ rest)) (digits_before more (n / 10) ((48 + n % 10) ∷ (text ++ rest)))
        ≡ cond test ((48 + n) ∷ text) (digits_before more (n / 10) ((48 + n % 10) ∷ text)) ++ rest
    go true further = refl
    go false further = further

pub decimal-append : (n : ℕ) (rest : List ℕ) → decimal_before n rest ≡ decimal_before n [] ++ rest
decimal-append n rest = digits-append 20 n [] rest
