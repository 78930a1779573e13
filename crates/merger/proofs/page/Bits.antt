-- The bits of two words together, and of a word that has so many ones from an offset on.
use Rattle.std.specs.Prelude.{ℕ, zero, suc, ◌+◌, ◌-◌, ◌*◌, ◌/◌, ◌%◌, ◌^◌, ◌<◌, ◌≤◌, ◌≡◌, ◌||◌, eqb}
use Rattle.laws.proofs.Prelude.{refl, sym, ◌∙◌, arith}
use Prim.Native.Nat.{max}
use native.Mathlib.Nat.{pow-suc, suc-add, zero-add, one-mul}
use lib.Bits.{bit_or, or_step}
use lib.Pow.{pow_pos, pow_mono, shl_exact}
use Rattle.diff.specs.Marks.{is_set}
use Rattle.diff.proofs.Bits.{bit_half, bit-first, none_set}
use Rattle.merger.specs.Page.{in_range}
use Rattle.merger.proofs.page.Range.{in_range_lem, below, past, range_alike}

-- ---- two words together

or_half : (a b : ℕ) → bit_or a b / 2 ≡ bit_or (a / 2) (b / 2)
or_half a b = omega (arith, or_step a b)

or-first : (a b : ℕ) → bit_or a b % 2 ≡ max (a % 2) (b % 2)
or-first a b = omega (arith, or_step a b)

pub set_in_either : (a b w : ℕ) → is_set (bit_or a b) w ≡ (is_set a w || is_set b w)
set_in_either a b zero =
    rw (bit-first (bit_or a b), bit-first a, bit-first b, or-first a b)
    (go (a % 2) (b % 2) (omega arith) (omega arith))
  where
    go : (x y : ℕ) → x < 2 → y < 2 → eqb (max x y) 1 ≡ (eqb x 1 || eqb y 1)
    go zero zero _ _ = refl
    go zero (suc zero) _ _ = refl
    go (suc zero) zero _ _ = refl
    go (suc zero) (suc zero) _ _ = refl
    go zero (suc (suc y)) _ small = absurd (omega arith)
    go (suc zero) (suc (suc y)) _ small = absurd (omega arith)
    go (suc (suc x)) y small _ = absurd (omega arith)
set_in_either a b (suc w) =
    rw (← bit_half (bit_or a b) w, ← bit_half a w, ← bit_half b w, or_half a b) (set_in_either (a / 2) (b / 2) w)

-- ---- so many ones from an offset on

abbrev ones_from : ℕ → ℕ → ℕ
ones_from offset count = 2 ^ (offset + count) - 2 ^ offset

later_half : (offset count : ℕ) → ones_from (suc offset) count / 2 ≡ ones_from offset count
later_half offset count = rw suc-add (omega (arith, pow-suc 2 (offset + count), pow-suc 2 offset))

later_first : (offset count : ℕ) → ones_from (suc offset) count % 2 ≡ 0
later_first offset count = rw suc-add (omega (arith, pow-suc 2 (offset + count), pow-suc 2 offset))

one_half : (count : ℕ) → ones_from 0 (suc count) / 2 ≡ ones_from 0 count
one_half count = rw (zero-add, zero-add) (omega (arith, pow-suc 2 count, pow_pos count))

one-first : (count : ℕ) → ones_from 0 (suc count) % 2 ≡ 1
one-first count = rw zero-add (omega (arith, pow-suc 2 count, pow_pos count))

pub ones_set : (offset count w : ℕ) → is_set (ones_from offset count) w ≡ in_range offset count w
ones_set (suc offset) count zero =
    rw (bit-first (ones_from (suc offset) count), later_first offset count)
    (sym (below (suc offset) count 0 (omega arith)))
ones_set (suc offset) count (suc w) =
    rw (← bit_half (ones_from (suc offset) count) w, later_half offset count)
    (ones_set offset count w
    ∙ range_alike offset count w (suc offset) count (suc w) (λ h. omega arith) (λ h. omega arith) (λ h. omega arith)
    (λ h. omega arith))
ones_set zero zero w = none_set w ∙ sym (past 0 0 w (omega arith) (omega arith))
ones_set zero (suc count) zero =
    rw (bit-first (ones_from 0 (suc count)), one-first count) (sym (in_range_lem 0 (suc count) 0 (omega arith) (omega arith)))
ones_set zero (suc count) (suc w) =
    rw (← bit_half (ones_from 0 (suc count)) w, one_half count) (ones_set 0 count w
    ∙ range_alike 0 count w 0 (suc count) (suc w) (λ h. omega arith) (λ h. omega arith) (λ h. omega arith)
    (λ h. omega arith))

-- the powers of two that they are the difference of, in a word of 64 bits
pub shifted : (n : ℕ) → n ≤ 32 → (1 * 2 ^ n) % 2 ^ 64 ≡ 2 ^ n
shifted n fits = shl_exact {a = 1} 1 n 64 (omega arith) (omega arith) ∙ one-mul (2 ^ n)

pub below_end : (offset count : ℕ) → 2 ^ offset ≤ 2 ^ (offset + count)
below_end offset count = pow_mono {i = offset} {j = offset + count} (omega arith)
