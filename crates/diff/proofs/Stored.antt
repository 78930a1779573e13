-- A diff that is read to its end word, whatever follows it: how many prices and words it has.
use Rattle.std.specs.Prelude.{ℕ, zero, suc, ◌+◌, ◌≤◌, ◌<◌, ◌≡◌, List, [], ◌∷◌, length, get_or}
use Rattle.laws.proofs.Prelude.{refl, arith, lt-ltb, le-ltb}
use Rattle.diff.specs.Format.{most_words}
use Rattle.diff.specs.Reading.{Cursor, Step, start, word_step, verdict_after, read_well, read_from}
use Rattle.diff.specs.Prices.{Price, prices_from, prices_of}
use Rattle.diff.proofs.Reading.{WordCase, a_price, a_page, a_run, an_end, a_fault, word_case}
use Rattle.diff.proofs.Derivation.{not_good, good_words, good_prices, after_word_lem, before_limit, prices_word}

-- the number of prices is that of the words read and of those before
module _ (pages k n : ℕ) where
  pub good_counts : (ws : List ℕ) (s : Cursor) (index : ℕ) → read_from pages ws index s ≡ read_well k n
      → k ≡ s.prices + length (prices_from pages ws index s)
  unfolding read_from
  good_counts [] s index read = absurd (not_good read)
  good_counts (w ∷ ws) s index read =
      go _ refl (word_case pages s index w) (after_word_lem pages k n w ws s index read)
      (λ t. good_counts ws t (index + 1))
    where
      Rest : Type 0
      Rest = (t : Cursor) → read_from pages ws (index + 1) t ≡ read_well k n
          → k ≡ t.prices + length (prices_from pages ws (index + 1) t)

      go : (step : Step) → word_step pages s index w ≡ step → WordCase pages s index w step
          → verdict_after (read_from pages ws (index + 1)) s index step ≡ read_well k n → Rest
          → k ≡ s.prices + length (prices_from pages (w ∷ ws) index s)
      go _ does (a_price due) read rest =
          let r = rest _ read in
          rw (prices_word pages s index w ws _ does, lt-ltb 0 s.due due) (omega arith)
      go _ does (a_page idle _ _ _ _) read rest =
          rw (prices_word pages s index w ws _ does, le-ltb 0 s.due (omega arith)) (rest _ read)
      go _ does (a_run idle _ _ _ _ _) read rest =
          rw (prices_word pages s index w ws _ does, le-ltb 0 s.due (omega arith)) (rest _ read)
      go _ does (an_end idle _ _ _) read rest =
          let r = good_prices read in
          rw (prices_word pages s index w ws _ does, le-ltb 0 s.due (omega arith)) (omega arith)
      go _ does (a_fault _) read rest = absurd (not_good read)

  -- each price is a word, and there are at most 512 words
  pub good_few : (ws : List ℕ) (s : Cursor) (index : ℕ) → read_from pages ws index s ≡ read_well k n → s.prices ≤ index
      → index ≤ most_words → (k < n) × (n ≤ most_words)
  unfolding read_from
  good_few [] s index read few low = absurd (not_good read)
  good_few (w ∷ ws) s index read few low =
      go _ (word_case pages s index w) (after_word_lem pages k n w ws s index read) (λ t. good_few ws t (index + 1))
    where
      within : index ≡ most_words → ⊥
      within = before_limit pages k n w ws s index read

      Rest : Type 0
      Rest = (t : Cursor) → read_from pages ws (index + 1) t ≡ read_well k n → t.prices ≤ index + 1 → index + 1 ≤ most_words
          → (k < n) × (n ≤ most_words)

      go : (step : Step) → WordCase pages s index w step
          → verdict_after (read_from pages ws (index + 1)) s index step ≡ read_well k n
          → Rest → (k < n) × (n ≤ most_words)
      go _ (a_price due) read rest = rest _ read (omega arith) (omega (arith, within))
      go _ (a_page _ _ _ _ _) read rest = rest _ read (omega arith) (omega (arith, within))
      go _ (a_run _ _ _ _ _ _) read rest = rest _ read (omega arith) (omega (arith, within))
      go _ (an_end _ _ _ _) read rest = omega (arith, within, good_prices read, good_words read)
      go _ (a_fault _) read rest = absurd (not_good read)

-- ---- each price is one of a page of the rack

abbrev pub OnPages : ℕ → List Price → Type 0
OnPages pages [] = Unit {0}
OnPages pages (p ∷ ps) = (p.page < pages) × (p.word < 32) × OnPages pages ps

module _ (pages : ℕ) where
  from_state : (ws : List ℕ) (s : Cursor) (index : ℕ) → s.word + s.due ≤ 32
      → (0 < s.due → (0 < s.next) × (s.next ≤ pages)) → (0 < s.next → s.next ≤ pages)
      → OnPages pages (prices_from pages ws index s)
  unfolding prices_from
  from_state [] s index within run named = tt
  from_state (w ∷ ws) s index within run named =
      go _ refl (word_case pages s index w) (λ t. from_state ws t (index + 1))
    where
      Rest : Type 0
      Rest = (t : Cursor) → t.word + t.due ≤ 32 → (0 < t.due → (0 < t.next) × (t.next ≤ pages))
          → (0 < t.next → t.next ≤ pages) → OnPages pages (prices_from pages ws (index + 1) t)

      go : (step : Step) → word_step pages s index w ≡ step → WordCase pages s index w step → Rest
          → OnPages pages (prices_from pages (w ∷ ws) index s)
      go _ does (a_price due) rest =
          let r = run due in
          rw (prices_word pages s index w ws _ does, lt-ltb 0 s.due due)
          (omega arith, omega arith, rest _ (omega arith) (λ _. r) (λ _. r.1))
      go _ does (a_page idle _ _ _ fits) rest =
          rw (prices_word pages s index w ws _ does, le-ltb 0 s.due (omega arith))
          (rest _ (omega arith) (λ due. absurd (omega arith)) (λ _. omega arith))
      go _ does (a_run idle _ page _ short _) rest =
          rw (prices_word pages s index w ws _ does, le-ltb 0 s.due (omega arith))
          (rest _ short (λ _. (page, named page)) named)
      go _ does (an_end idle _ _ _) rest =
          rw (prices_word pages s index w ws _ does, le-ltb 0 s.due (omega arith)) tt
      go _ does (a_fault idle) rest =
          rw (prices_word pages s index w ws _ does, le-ltb 0 s.due (omega arith)) tt

  pub prices_on_pages : (ws : List ℕ) → OnPages pages (prices_of pages ws)
  unfolding prices_of
  prices_on_pages ws = from_state ws start 0 (omega arith) (λ due. absurd (omega arith)) (λ page. absurd (omega arith))

pub price_on_page : (pages : ℕ) (ps : List Price) (i : ℕ) (none : Price) → OnPages pages ps → i < length ps
    → ((get_or ps i none).page < pages) × ((get_or ps i none).word < 32)
price_on_page pages [] i none on within = absurd (omega arith)
price_on_page pages (p ∷ ps) zero none on within = (on.0, on.1)
price_on_page pages (p ∷ ps) (suc i) none on within = price_on_page pages ps i none on.2 (omega arith)
