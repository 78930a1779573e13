-- A field that is being read: a number that goes on with more bytes.
use Rattle.std.specs.Prelude.{ℕ, suc, ◌+◌, ◌-◌, ◌*◌, ◌≤◌, ◌<◌, ◌≡◌, List, [], ◌∷◌, Bool, true, false, ◌&&◌, leb, eqb}
use Rattle.std.specs.Prelude.{length}
use Rattle.laws.proofs.Prelude.{arith, le-leb, lt-leb}
use mathlib.Core.Bool.{and-false}
use native.Mathlib.Nat.{zero-add}
use Rattle.lines.specs.Grammar.{break_at, fields_of, is_digit, all_digits, number_from, is_number}

-- ---- the fields of a line are one at least

pub by_fields : (P : List (List ℕ) → Type 0) → ((f : List ℕ) (fs : List (List ℕ)) → P (f ∷ fs)) → (line : List ℕ)
    → P (fields_of line)
unfolding fields_of break_at
by_fields P some [] = some [] []
by_fields P some (b ∷ bs) = go (eqb b 32) (fields_of bs)
  where
    go : (test : Bool) (parts : List (List ℕ)) → P (break_at test b parts)
    go true parts = some [] parts
    go false [] = some (b ∷ []) []
    go false (part ∷ parts) = some (b ∷ part) parts

-- ---- a number that goes on

grows : (f : List ℕ) (n : ℕ) → n ≤ number_from n f
unfolding number_from
grows [] n = omega arith
grows (b ∷ bs) n = omega (arith, grows bs (10 * n + (b - 48)))

-- so many bytes and this value, going on with f, are a number
abbrev pub continues : ℕ → ℕ → List ℕ → Bool
continues k v f =
    all_digits f && (leb 1 (k + length f) && (leb (k + length f) 10 && leb (number_from v f) 4294967295))

pub starts : (f : List ℕ) → continues 0 0 f ≡ is_number f
starts f = rw zero-add

module _ (k v b : ℕ) (f : List ℕ) where
  pub no_digit : is_digit b ≡ false → continues k v (b ∷ f) ≡ false
  unfolding all_digits
  no_digit other = rw other

  pub too_long : 10 ≤ k → continues k v (b ∷ f) ≡ false
  too_long long = rw (lt-leb (k + suc (length f)) 10 (omega arith)) (rw (and-false, and-false))

  pub too_large : 4294967295 < 10 * v + (b - 48) → continues k v (b ∷ f) ≡ false
  unfolding number_from
  too_large large =
      rw (lt-leb (number_from (10 * v + (b - 48)) f) 4294967295 (omega (arith, grows f (10 * v + (b - 48)))))
      (rw (and-false, and-false, and-false))

  pub one_more : is_digit b ≡ true → continues (k + 1) (10 * v + (b - 48)) f ≡ continues k v (b ∷ f)
  unfolding all_digits number_from
  one_more digit =
      let e : k + 1 + length f ≡ k + suc (length f) = omega arith in
      rw (digit, e)

pub done : (k v : ℕ) → 1 ≤ k → k ≤ 10 → v ≤ 4294967295 → continues k v [] ≡ true
unfolding all_digits number_from
done k v some few small =
    let e : k + 0 ≡ k = omega arith in
    rw e (simp (le-leb 1 k some, le-leb k 10 few, le-leb v 4294967295 small))
