-- The marks of the words that differ from their twins, made from the first word up: what one word more brings,
-- and that its bit has room.
use Rattle.std.specs.Prelude.{ℕ, zero, suc, ◌+◌, ◌*◌, ◌^◌, ◌%◌, ◌<◌, ◌≡◌, List, [], ◌∷◌, Bool, true, false, cond}
use Rattle.std.specs.Prelude.{length, get_or, take, eqb}
use Rattle.laws.proofs.Prelude.{◌∙◌, arith, eq-eqb, ne_eqb}
use native.Mathlib.Nat.{one-mul, pow-suc}
use native.Mathlib.Numerals.{add-one}
use lib.ListN.{length-take}
use lib.Pow.{pow_mono, shl_exact}
use Rattle.diff.specs.Marks.{changed_words}
use Rattle.diff.proofs.Marks.{changed_small}

-- the marks of the first so many words
abbrev pub changed_first : List ℕ → List ℕ → ℕ → ℕ
changed_first words twins n = changed_words (take n words) (take n twins)

one_more : (words twins : List ℕ) (n : ℕ) → n < length words → n < length twins
    → changed_first words twins (suc n)
    ≡ changed_first words twins n + cond (eqb (get_or words n 0) (get_or twins n 0)) 0 (2 ^ n)
unfolding changed_words
one_more [] twins n within within' = absurd (omega arith)
one_more (w ∷ ws) [] n within within' = absurd (omega arith)
one_more (w ∷ ws) (t ∷ ts) zero within within' = omega arith
one_more (w ∷ ws) (t ∷ ts) (suc n) within within' =
    twice (cond (eqb w t) 0 1) (eqb (get_or ws n 0) (get_or ts n 0)) (one_more ws ts n (omega arith) (omega arith))
  where
    twice : (first : ℕ) (same : Bool)
        → changed_first ws ts (suc n) ≡ changed_first ws ts n + cond same 0 (2 ^ n)
        → first + 2 * changed_first ws ts (suc n)
        ≡ first + 2 * changed_first ws ts n + cond same 0 (2 ^ suc n)
    twice first true more = omega arith
    twice first false more = omega (arith, pow-suc 2 n)

module _ (words twins : List ℕ) (n : ℕ) (within : n < length words) (within' : n < length twins) where
  pub changed_same : get_or words n 0 ≡ get_or twins n 0 → changed_first words twins n ≡ changed_first words twins (n + 1)
  changed_same same = rw add-one (omega (arith, rw (eq-eqb _ _ same) at (one_more words twins n within within')))

  pub changed_differs : (get_or words n 0 ≡ get_or twins n 0 → ⊥)
      → changed_first words twins n + 2 ^ n ≡ changed_first words twins (n + 1)
  changed_differs differs =
      rw add-one (omega (arith, rw (ne_eqb _ _ differs) at (one_more words twins n within within')))

-- the bit of one of 32 words
pub word_bit : (n : ℕ) → n < 32 → (1 * 2 ^ n) % 2 ^ 32 ≡ 2 ^ n
word_bit n below = shl_exact {a = 1} 1 n 32 (omega arith) (omega arith) ∙ one-mul (2 ^ n)

-- there is room for it above the marks of the words before it
pub changed_fits : (words twins : List ℕ) (n : ℕ) → n < 32 → changed_first words twins n + 2 ^ n < 2 ^ 32
changed_fits words twins n below =
    let small = changed_small n (take n words) (take n twins) (rw length-take (omega arith)) in
    omega (arith, small, pow-suc 2 n, pow_mono {i = suc n} {j = 32} (omega arith))
