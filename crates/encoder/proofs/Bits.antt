-- The first run of the set bits of a word: what trailing zeros say of its bits, the bits of its complement, and that
-- the zeros before the run and those of the complement from there on place it.
use Rattle.std.specs.Prelude.{ℕ, zero, suc, ◌+◌, ◌-◌, ◌/◌, ◌%◌, ◌^◌, ◌<◌, ◌≤◌, ◌≡◌}
use Rattle.laws.proofs.Prelude.{refl, sym, ap, ◌∙◌, arith, dec_lt}
use native.Mathlib.Nat.{pow-zero, pow-suc, zero-add, lt_of_lt_of_le}
use lib.Count.{count_trailing_zeros, under, trailing_le}
use lib.Pow.{shr_lt, shr_le, pow_mono}
use Rattle.diff.specs.Marks.{bit}
use Rattle.diff.proofs.Bits.{bit_shifted, bit_half, bit-first, half_small}
use Rattle.encoder.specs.Page.{FirstRun}

-- ---- trailing zeros

-- no bit below them is set
zeros_below : (bits word w : ℕ) → w < count_trailing_zeros bits word → bit word w ≡ 0
unfolding count_trailing_zeros
zeros_below zero word w below = absurd (omega arith)
zeros_below (suc bits) word w below = go (word % 2) refl w below (zeros_below bits (word / 2))
  where
    zeros : ℕ
    zeros = count_trailing_zeros bits (word / 2)

    go : (first : ℕ) → word % 2 ≡ first → (w : ℕ) → w < under first zeros
        → ((v : ℕ) → v < zeros → bit (word / 2) v ≡ 0) → bit word w ≡ 0
    go zero even zero below rest = bit-first word ∙ even
    go zero even (suc w) below rest = sym (bit_half word w) ∙ rest w (omega arith)
    go (suc first) odd w below rest = absurd (omega arith)

-- the bit at their end is
one_at_end : (bits word : ℕ) → count_trailing_zeros bits word < bits → bit word (count_trailing_zeros bits word) ≡ 1
unfolding count_trailing_zeros
one_at_end zero word below = absurd (omega arith)
one_at_end (suc bits) word below = go (word % 2) refl below (one_at_end bits (word / 2))
  where
    zeros : ℕ
    zeros = count_trailing_zeros bits (word / 2)

    go : (first : ℕ) → word % 2 ≡ first → under first zeros < suc bits
        → (zeros < bits → bit (word / 2) zeros ≡ 1) → bit word (under first zeros) ≡ 1
    go zero even below rest = sym (bit_half word zeros) ∙ rest (omega arith)
    go (suc zero) odd below rest = bit-first word ∙ odd
    go (suc (suc first)) odd below rest = absurd (omega arith)

-- a word with a set bit has fewer of them than bits
pub zeros_short : (bits word : ℕ) → 0 < word → word < 2 ^ bits → count_trailing_zeros bits word < bits
unfolding count_trailing_zeros
zeros_short zero word some small = absurd (omega (arith, pow-zero 2))
zeros_short (suc bits) word some small = go (word % 2) refl (zeros_short bits (word / 2))
  where
    go : (first : ℕ) → word % 2 ≡ first
        → (0 < word / 2 → word / 2 < 2 ^ bits → count_trailing_zeros bits (word / 2) < bits)
        → under first (count_trailing_zeros bits (word / 2)) < suc bits
    go zero even rest = omega (arith, rest (omega arith) (half_small bits word small))
    go (suc first) odd rest = omega arith

-- ---- the complement in a word of so many bits

abbrev pub complement : ℕ → ℕ → ℕ
complement bits word = 2 ^ bits - 1 - word

pub complement_half : (bits word : ℕ) → word < 2 ^ suc bits
    → complement (suc bits) word / 2 ≡ complement bits (word / 2)
complement_half bits word small = omega (arith, pow-suc 2 bits)

pub complement_first : (bits word : ℕ) → word < 2 ^ suc bits → complement (suc bits) word % 2 ≡ 1 - word % 2
complement_first bits word small = omega (arith, pow-suc 2 bits)

bit_complement : (bits word w : ℕ) → word < 2 ^ bits → w < bits → bit (complement bits word) w ≡ 1 - bit word w
bit_complement zero word w small below = absurd (omega arith)
bit_complement (suc bits) word zero small below =
    bit-first (complement (suc bits) word) ∙ complement_first bits word small
    ∙ ap (λ (first : ℕ). 1 - first) (sym (bit-first word))
bit_complement (suc bits) word (suc w) small below =
    sym (bit_half (complement (suc bits) word) w) ∙ ap (λ (half : ℕ). bit half w) (complement_half bits word small)
    ∙ bit_complement bits (word / 2) w (half_small bits word small) (omega arith)
    ∙ ap (λ (b : ℕ). 1 - b) (bit_half word w)

-- ---- the first run

-- nothing of a word is left behind its bits
pub none_behind_bits : (marks end : ℕ) → marks < 2 ^ 32 → 32 ≤ end → marks / 2 ^ end ≡ 0
none_behind_bits marks end small past =
    omega (arith, shr_lt {n = marks} 0 end (rw zero-add (lt_of_lt_of_le small (pow_mono past))), pow-zero 2)

module _ (marks : ℕ) (some : 0 < marks) (small : marks < 2 ^ 32) where
  abbrev offset : ℕ
  offset = count_trailing_zeros 32 marks

  abbrev from_run : ℕ
  from_run = marks / 2 ^ offset

  abbrev count : ℕ
  count = count_trailing_zeros 32 (complement 32 from_run)

  offset_short : offset < 32
  offset_short = zeros_short 32 marks some small

  -- a bit from the run on, by that of the complement
  from_run_bit : (w : ℕ) → w < 32 → bit (complement 32 from_run) w ≡ 1 - bit marks (offset + w)
  from_run_bit w below =
      bit_complement 32 from_run w (omega (arith, small, shr_le marks offset)) below
      ∙ ap (λ (b : ℕ). 1 - b) (bit_shifted marks offset w)

  marked : (w : ℕ) → w < count → bit marks (offset + w) ≡ 1
  marked w below =
      let short : w < 32 = omega (arith, trailing_le 32 (complement 32 from_run)) in
      omega (arith, from_run_bit w short, zeros_below 32 (complement 32 from_run) w below)

  unmarked : count < 32 → bit marks (offset + count) ≡ 0
  unmarked short = omega (arith, from_run_bit count short, one_at_end 32 (complement 32 from_run) short)

  count_some : 0 < count
  count_some = go (dec_lt 0 count)
    where
      go : Dec (0 < count) → 0 < count
      go (yes positive) = positive
      go (no none) =
          let place : offset + count ≡ offset = omega arith in
          absurd (omega (arith, one_at_end 32 marks offset_short, rw place at (unmarked (omega arith))))

  run_fits : offset + count ≤ 32
  run_fits = go (dec_lt 32 (offset + count))
    where
      go : Dec (32 < offset + count) → offset + count ≤ 32
      go (no within) = omega arith
      go (yes past) =
          let place : offset + (32 - offset) ≡ 32 = omega (arith, offset_short) in
          let at_end : bit marks 32 ≡ 1 = rw place at (marked (32 - offset) (omega (arith, offset_short))) in
          absurd (omega (arith, at_end, none_behind_bits marks 32 small (omega arith)))

  pub first_run : FirstRun marks (record { offset = offset; count = count })
  first_run =
      record {
        within = run_fits;
        some = count_some;
        none_before = λ w below. zeros_below 32 marks w below;
        all_marked = marked;
        none_behind = λ short. unmarked (omega arith);
      }
