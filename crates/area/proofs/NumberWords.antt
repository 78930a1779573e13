-- Numbers by their words. Whoever reads or writes a number goes by these laws, not by how many words it has.
use Rattle.std.specs.Prelude.{ℕ, ◌+◌, ◌<◌, ◌≡◌, length, get_or, List, ◌++◌}
use Rattle.laws.proofs.Prelude.{refl, arith, sym}
use native.Mathlib.Nat.{add-zero}
use Rattle.memory.specs.Words.{store_run}
use Rattle.memory.proofs.Runs.{store_run_append}
use Rattle.area.specs.Layout.{number_size}
use Rattle.area.specs.Numbers.{number_words, number_at, store_number}

pub length_number : (number : ℕ) → length (number_words number) ≡ number_size
unfolding number_words
length_number number = refl

module _ (f : ℕ → ℕ) (offset : ℕ) where
  -- a number goes by its words alone
  pub number_kept : (f' : ℕ → ℕ) → ((j : ℕ) → j < number_size → f' (offset + j) ≡ f (offset + j))
      → number_at f' offset ≡ number_at f offset
  unfolding number_at
  number_kept f' same = rw (rw add-zero at (same 0 (omega arith)), same 1 (omega arith))

  -- what was written is read
  pub number_is : (number : ℕ) → ((j : ℕ) → j < number_size → f (offset + j) ≡ get_or (number_words number) j 0)
      → number_at f offset ≡ number
  unfolding number_at number_words
  number_is number words = rw (rw add-zero at (words 0 (omega arith)), words 1 (omega arith)) (omega arith)

  -- words that are 0
  pub number_zero : ((j : ℕ) → j < number_size → f (offset + j) ≡ 0) → number_at f offset ≡ 0
  unfolding number_at
  number_zero zero_words = rw (rw add-zero at (zero_words 0 (omega arith)), zero_words 1 (omega arith))

-- a number stored, and the words that follow it, are one run
pub number_then : (size : ℕ) (m : List ℕ) (card offset number : ℕ) (vs : List ℕ)
    → store_run size (store_number size m card offset number) card (offset + number_size) vs
    ≡ store_run size m card offset (number_words number ++ vs)
number_then size m card offset number vs =
    rw (← length_number number) (sym (store_run_append size m card offset (number_words number) vs))
