-- A test on the words of a page as a word of marks, and their prices as a list.
use Rattle.std.specs.Prelude.{ℕ, zero, suc, ◌+◌, ◌*◌, ◌/◌, ◌^◌, ◌<◌, ◌≡◌, List, [], ◌∷◌, Bool, true, false, cond}
use Rattle.std.specs.Prelude.{length, get_or}
use Rattle.laws.proofs.Prelude.{refl, ap, arith, eq-eqb, ne_eqb}
use native.Mathlib.Nat.{pow-suc, pow-zero}
use Rattle.diff.specs.Marks.{bit, is_set}
use Rattle.diff.proofs.Bits.{bit_half, bit-first}

-- ---- marks

unfoldable pub packed : (ℕ → Bool) → ℕ → ℕ
packed named zero = 0
packed named (suc n) = cond (named 0) 1 0 + 2 * packed (λ (w : ℕ). named (suc w)) n

first_half : (first : Bool) (rest : ℕ) → (cond first 1 0 + 2 * rest) / 2 ≡ rest
first_half true rest = omega arith
first_half false rest = omega arith

first_bit : (first : Bool) (rest : ℕ) → is_set (cond first 1 0 + 2 * rest) 0 ≡ first
first_bit true rest = eq-eqb (bit (1 + 2 * rest) 0) 1 (omega (arith, bit-first (1 + 2 * rest)))
first_bit false rest = ne_eqb (bit (0 + 2 * rest) 0) 1 (omega (arith, bit-first (0 + 2 * rest)))

pub packed_set : (named : ℕ → Bool) (n w : ℕ) → w < n → is_set (packed named n) w ≡ named w
unfolding packed
packed_set named zero w below = absurd (omega arith)
packed_set named (suc n) zero below = first_bit (named 0) (packed (λ (w : ℕ). named (suc w)) n)
packed_set named (suc n) (suc w) below =
    rw (← bit_half (packed named (suc n)) w, first_half (named 0) (packed (λ (v : ℕ). named (suc v)) n))
    (packed_set (λ (v : ℕ). named (suc v)) n w (omega arith))

pub packed_small : (named : ℕ → Bool) (n : ℕ) → packed named n < 2 ^ n
unfolding packed
packed_small named zero = omega (arith, pow-zero 2)
packed_small named (suc n) = go (named 0) (packed_small (λ (w : ℕ). named (suc w)) n)
  where
    go : (first : Bool) → packed (λ (w : ℕ). named (suc w)) n < 2 ^ n
        → cond first 1 0 + 2 * packed (λ (w : ℕ). named (suc w)) n < 2 ^ suc n
    go true small = omega (arith, pow-suc 2 n)
    go false small = omega (arith, pow-suc 2 n)

-- ---- prices

unfoldable pub tabulated : (ℕ → ℕ) → ℕ → List ℕ
tabulated price zero = []
tabulated price (suc n) = price 0 ∷ tabulated (λ (w : ℕ). price (suc w)) n

pub length_tabulated : (price : ℕ → ℕ) (n : ℕ) → length (tabulated price n) ≡ n
unfolding tabulated
length_tabulated price zero = refl
length_tabulated price (suc n) = ap suc (length_tabulated (λ (w : ℕ). price (suc w)) n)

pub tabulated_at : (price : ℕ → ℕ) (n w : ℕ) → w < n → get_or (tabulated price n) w 0 ≡ price w
unfolding tabulated
tabulated_at price zero w below = absurd (omega arith)
tabulated_at price (suc n) zero below = refl
tabulated_at price (suc n) (suc w) below = tabulated_at (λ (v : ℕ). price (suc v)) n w (omega arith)
