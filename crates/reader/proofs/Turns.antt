-- One word of a list that is read: what is left to read, read from here, gives the whole.
use Rattle.std.specs.Prelude.{ℕ, zero, suc, ◌+◌, ◌-◌, ◌≤◌, ◌<◌, ◌≡◌, List, [], ◌∷◌, length, drop, get_or, slice_get, Some}
use Rattle.laws.proofs.Prelude.{refl, arith, eq-eqb, ne_eqb, lt-ltb}
use native.Mathlib.Numerals.{add-one}
use lib.ListN.{drop_of_length-le}
use lib.Seq.{drop-cons}
use Rattle.diff.specs.declared.Cursor.{Cursor}
use Rattle.diff.specs.declared.Step.{Step}
use Rattle.diff.specs.Reading.{past_price, word_step, verdict_after, fault_at, read_from}
use Rattle.diff.specs.declared.Price.{Price}
use Rattle.diff.specs.Prices.{priced_word, prices_from}
use Rattle.diff.proofs.Derivation.{step_price}

module _ (pages : ℕ) (list : List ℕ) (index : ℕ) (s : Cursor) where
  -- at the end of the list, past 512 words, and at a word
  pub read_end : length list ≤ index → read_from pages (drop index list) index s ≡ fault_at index
  unfolding read_from
  read_end end = rw (drop_of_length-le list end)

  pub read_long : index < length list → index ≡ 512 → read_from pages (drop index list) index s ≡ fault_at 512
  unfolding read_from
  read_long within full = rw (drop-cons list index 0 within) (simp (eq-eqb index 512 full))

  pub read_turn : (step : Step) → step ≡ word_step pages s index (get_or list index 0) → index < length list
      → (index ≡ 512 → ⊥)
      → read_from pages (drop index list) index s ≡ verdict_after (read_from pages (drop (index + 1) list) (index + 1)) s
      index step
  unfolding read_from
  read_turn step does within few = rw (does, drop-cons list index 0 within, add-one) (simp (ne_eqb index 512 few))

  -- the prices of the words that are left
  pub prices_end : length list ≤ index → prices_from pages (drop index list) index s ≡ []
  unfolding prices_from
  prices_end end = rw (drop_of_length-le list end)

  pub prices_due : index < length list → 0 < s.due
      → prices_from pages (drop index list) index s
      ≡ priced_word s (get_or list index 0) ∷ prices_from pages (drop (index + 1) list) (index + 1) (past_price s)
  unfolding prices_from
  prices_due within due =
      rw (drop-cons list index 0 within, add-one, step_price pages s index (get_or list index 0) due)
      (simp (lt-ltb 0 s.due due))

-- the price numbered n of a list with a first one
pub nth_first : (p : Price) (ps : List Price) (n : ℕ) → n ≡ 0 → slice_get (p ∷ ps) n ≡ Some p
nth_first p ps n e = rw e

pub nth_later : (p : Price) (ps : List Price) (n : ℕ) → (n ≡ 0 → ⊥) → slice_get (p ∷ ps) n ≡ slice_get ps (n - 1)
nth_later p ps zero some = absurd (some refl)
nth_later p ps (suc n) some = let e : suc n - 1 ≡ n = omega arith in rw e
