-- Several prices of a run read at once: the cursor moved past them. A run that is cut short ends the reading.
use Rattle.std.specs.Prelude.{ℕ, zero, suc, ◌+◌, ◌-◌, ◌*◌, ◌≤◌, ◌<◌, ◌≡◌, List, length, drop, get_or, slice_get, None}
use Rattle.laws.proofs.Prelude.{refl, sym, ap, ◌∙◌, dec_lt, arith, lt-ltb, le-ltb}
use Prim.Native.Nat.{min}
use native.Mathlib.Nat.{add-zero, sub-zero}
use Rattle.diff.specs.declared.Cursor.{Cursor}
use Rattle.diff.specs.declared.Step.TheVariants.{Next}
use Rattle.diff.specs.Reading.{past_price, word_step, fault_at, read_from}
use Rattle.diff.specs.Prices.{prices_from}
use Rattle.diff.proofs.Derivation.{step_price}
use Rattle.reader.specs.Runs.{past_prices, nth_due}
use Rattle.reader.specs.Walking.{Walk, past_run}
use Rattle.reader.proofs.Keeping.{Idle, Passed, word_passed}
use Rattle.reader.proofs.Walking.{left_end, left_passed}
use Rattle.reader.specs.Walking.{Reached, prices_left}
use Rattle.reader.proofs.Turns.{read_end, read_long, read_turn, prices_end, prices_due, nth_first, nth_later}

-- ---- the cursor

-- n prices are due, and only a run has prices
pub record Due (s : Cursor) (n : ℕ) : Type 0 where
  pub many : n ≤ s.due
  pub one : s.gap ≤ 1
  pub ran : s.due ≤ 32 * s.gap

past_none : (s : Cursor) → past_prices s 0 ≡ s
past_none s = rw (add-zero s.word, add-zero s.prices, sub-zero s.due)

same_cursor : {next next' word word' gap gap' due due' prices prices' : ℕ} → next ≡ next' → word ≡ word'
    → gap ≡ gap' → due ≡ due' → prices ≡ prices'
    → ◌≡◌ {A = Cursor} (record { next = next; word = word; gap = gap; due = due; prices = prices })
    (record { next = next'; word = word'; gap = gap'; due = due'; prices = prices' })
same_cursor a b c d e = cc

past_more : (s : Cursor) (n : ℕ) → Due s (suc n) → past_prices (past_price s) n ≡ past_prices s (suc n)
past_more s n due = same_cursor refl (omega arith) (omega arith) (omega arith) (omega arith)

due_later : (s : Cursor) (n : ℕ) → Due s (suc n) → Due (past_price s) n
due_later s n due = record { many = omega arith; one = omega arith; ran = omega arith }

module _ (pages : ℕ) (list : List ℕ) where
  -- ---- the verdict

  -- n prices read are the cursor moved by n
  pub read_prices : (n index : ℕ) (s : Cursor) → Due s n → index + n ≤ min (length list) 512
      → read_from pages (drop index list) index s
      ≡ read_from pages (drop (index + n) list) (index + n) (past_prices s n)
  read_prices zero index s due fits = rw (past_none s, add-zero index)
  read_prices (suc n) index s due fits =
      let next : index + 1 + n ≡ index + suc n = omega arith in
      read_turn pages list index s (Next (past_price s))
      (sym (step_price pages s index (get_or list index 0) (omega arith))) (omega arith) (λ full. omega arith)
      ∙ read_prices n (index + 1) (past_price s) (due_later s n due) (omega arith)
      ∙ rw (next, past_more s n due)

  -- past the last word that is read, where no end word was
  pub read_over : (index : ℕ) (s : Cursor) → index ≡ min (length list) 512
      → read_from pages (drop index list) index s ≡ fault_at index
  read_over index s all = go (dec_lt index (length list))
    where
      go : Dec (index < length list) → read_from pages (drop index list) index s ≡ fault_at index
      go (yes more) =
          let full : index ≡ 512 = omega arith in
          read_long pages list index s more full ∙ ap fault_at (sym full)
      go (no end) = read_end pages list index s (omega arith)

  -- a run that is cut short, or ends with the last word that is read
  pub read_cut : (words index : ℕ) (s : Cursor) → Due s (words - index) → index ≤ words
      → words ≡ min (length list) 512 → read_from pages (drop index list) index s ≡ fault_at words
  read_cut words index s due within all =
      let whole : index + (words - index) ≡ words = omega arith in
      read_prices (words - index) index s due (omega arith)
      ∙ rw whole (read_over words (past_prices s (words - index)) all)

  -- ---- the price numbered n

  -- n prices skipped, also where the list stops among them
  pub nth_skip : (n index : ℕ) (s : Cursor) (left : ℕ) → Due s n → n ≤ left
      → slice_get (prices_from pages (drop index list) index s) left
      ≡ slice_get (prices_from pages (drop (index + n) list) (index + n) (past_prices s n)) (left - n)
  nth_skip zero index s left due enough = rw (past_none s, add-zero index, sub-zero left)
  nth_skip (suc n) index s left due enough =
      go (dec_lt index (length list))
      (nth_skip n (index + 1) (past_price s) (left - 1) (due_later s n due) (omega arith))
    where
      go : Dec (index < length list)
          → (slice_get (prices_from pages (drop (index + 1) list) (index + 1) (past_price s)) (left - 1)
          ≡ slice_get (prices_from pages (drop (index + 1 + n) list) (index + 1 + n) (past_prices (past_price s) n))
          (left - 1 - n))
          → slice_get (prices_from pages (drop index list) index s) left
          ≡ slice_get (prices_from pages (drop (index + suc n) list) (index + suc n) (past_prices s (suc n)))
          (left - suc n)
      go (yes more) rest =
          let next : index + 1 + n ≡ index + suc n = omega arith in
          let fewer : left - 1 - n ≡ left - suc n = omega arith in
          ap (λ ps. slice_get ps left) (prices_due pages list index s more (omega arith))
          ∙ nth_later _ _ left (λ none. omega arith)
          ∙ rest
          ∙ rw (next, fewer, past_more s n due)
      go (no end) rest =
          rw (
            prices_end pages list index s (omega arith),
            prices_end pages list (index + suc n) (past_prices s (suc n)) (omega arith),
          )
          refl

  -- one of the prices that are due
  pub nth_found : (n index : ℕ) (s : Cursor) → Due s (n + 1)
      → slice_get (prices_from pages (drop index list) index s) n ≡ nth_due list index s n
  nth_found n index s due =
      nth_skip n index s n (record { many = omega arith; one = due.one; ran = due.ran }) (omega arith)
      ∙ go (dec_lt (index + n) (length list))
    where
      go : Dec (index + n < length list)
          → slice_get (prices_from pages (drop (index + n) list) (index + n) (past_prices s n)) (n - n)
          ≡ nth_due list index s n
      go (yes more) =
          ap (λ ps. slice_get ps (n - n))
          (prices_due pages list (index + n) (past_prices s n) more (omega arith))
          ∙ nth_first _ _ (n - n) (omega arith)
          ∙ simp (lt-ltb (index + n) (length list) more)
      go (no end) =
          rw (prices_end pages list (index + n) (past_prices s n) (omega arith))
          (simp (le-ltb (index + n) (length list) (omega arith)))

-- ---- one turn of a loop: a word where no price is due, and the prices of the run that it names

due_of : (s t : Cursor) (n : ℕ) → Passed s t → n ≤ t.due → Due t n
due_of s t n passed many = record { many = many; one = passed.one; ran = passed.ran }

module _ (pages : ℕ) (list : List ℕ) (index : ℕ) (s : Cursor) (free : Idle s) (t : Cursor)
    (does : Next t ≡ word_step pages s index (get_or list index 0)) where
  passed : Passed s t
  passed = word_passed pages s index (get_or list index 0) free t does

  module _ (words : ℕ) (all : words ≡ min (length list) 512) (within : index < words) where
    next : read_from pages (drop index list) index s ≡ read_from pages (drop (index + 1) list) (index + 1) t
    next = read_turn pages list index s (Next t) does (omega arith) (λ full. omega arith)

    pub read_run : index + t.due < words
        → read_from pages (drop index list) index s
        ≡ read_from pages (drop (index + (1 + t.due)) list) (index + (1 + t.due)) (past_prices t t.due)
    read_run fits =
        let past : index + 1 + t.due ≡ index + (1 + t.due) = omega arith in
        next
        ∙ read_prices pages list t.due (index + 1) t (due_of s t t.due passed (omega arith)) (omega arith)
        ∙ rw past

    pub read_run_cut : words ≤ index + t.due → read_from pages (drop index list) index s ≡ fault_at words
    read_run_cut short =
        let due = due_of s t (words - (index + 1)) passed (omega arith) in
        next ∙ read_cut pages list words (index + 1) t due (omega arith) all

-- ---- a turn of a walk by runs

module _ (pages : ℕ) (list : List ℕ) (at : Walk) (inside : at.index < length list)
    (reached : Reached pages (length list) at) (left : ℕ) where
  due_at : (n : ℕ) → n ≤ at.cursor.due → Due at.cursor n
  due_at n many = record { many = many; one = omega arith; ran = omega arith }

  pub nth_passed : at.cursor.due ≤ left
      → slice_get (prices_left pages list at) left
      ≡ slice_get (prices_left pages list (past_run pages list at)) (left - at.cursor.due)
  unfolding prices_left
  nth_passed enough =
      nth_skip pages list at.cursor.due at.index at.cursor left (due_at _ (omega arith)) enough
      ∙ ap (λ ps. slice_get ps (left - at.cursor.due)) (left_passed pages list at inside reached)

  pub nth_here : left < at.cursor.due
      → slice_get (prices_left pages list at) left ≡ nth_due list at.index at.cursor left
  unfolding prices_left
  nth_here within = nth_found pages list left at.index at.cursor (due_at (left + 1) (omega arith))

-- nothing is left at the end
pub nth_end : (pages : ℕ) (list : List ℕ) (at : Walk) (left : ℕ) → length list ≤ at.index
    → slice_get (prices_left pages list at) left ≡ None
nth_end pages list at left end = ap (λ ps. slice_get ps left) (left_end pages list at end)
