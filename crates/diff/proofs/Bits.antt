-- The bits of a word: of what is left of it after a shift, of its first bit and the others, and that 0 has none set.
use Rattle.std.specs.Prelude.{ℕ, suc, ◌+◌, ◌/◌, ◌%◌, ◌^◌, ◌<◌, ◌≡◌, false, cond}
use Rattle.laws.proofs.Prelude.{ap, ◌∙◌, arith, ℕ_discrete, eq-eqb, ne_eqb}
use native.Mathlib.Nat.{div-one, zero-div}
use native.Mathlib.Numerals.{add-one}
use lib.Pow.{shr_lt, shr-shr}
use Rattle.diff.specs.Marks.{bit, is_set}

pub bit_shifted : (word by w : ℕ) → bit (word / 2 ^ by) w ≡ bit word (by + w)
bit_shifted word by w = ap (λ (left : ℕ). left % 2) (shr-shr word by w)

pub bit_half : (word w : ℕ) → bit (word / 2) w ≡ bit word (suc w)
bit_half word w = bit_shifted word 1 w ∙ ap (bit word) (omega arith)

pub bit-first : (word : ℕ) → bit word 0 ≡ word % 2
bit-first word = ap (λ (left : ℕ). left % 2) (div-one word)

pub half_small : (n word : ℕ) → word < 2 ^ suc n → word / 2 < 2 ^ n
half_small n word small = shr_lt n 1 (rw add-one small)

-- the first bit as a number
pub first-set : (word : ℕ) → cond (is_set word 0) 1 0 ≡ word % 2
first-set word = elim (ℕ_discrete (bit word 0) 1) [
  | yes one ↦ rw (eq-eqb (bit word 0) 1 one) (omega (arith, one, bit-first word))
  | no other ↦ rw (ne_eqb (bit word 0) 1 other) (omega (arith, other, bit-first word))
]

pub none_set : (w : ℕ) → is_set 0 w ≡ false
none_set w = rw (zero-div (2 ^ w))
