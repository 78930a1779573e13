-- A diff that reads well to its end, as a derivation: a word and what follows it. Reading finds just these.
use Rattle.std.specs.Prelude.{ℕ, suc, ◌+◌, ◌/◌, ◌≤◌, ◌<◌, ◌≡◌, List, [], ◌∷◌, ◌++◌, Bool, true, false, cond, length}
use Rattle.std.specs.Prelude.{ltb, eqb, Ok}
use Rattle.laws.proofs.Prelude.{refl, sym, ap, ◌∙◌, subst, arith, lt-ltb, le-ltb, lt-leb, eq-eqb, ne_eqb}
use mathlib.Core.List.{append-nil}
use native.Mathlib.Nat.{add-zero, lt_of_lt_of_le}
use Rattle.diff.specs.Format.{kind, low, offset, count, page_word, run_word, end_word, most_words}
use Rattle.diff.specs.Reading.{Cursor, Step, Extent, Verdict, past_price, past_page, past_run, word_step, verdict_after}
use Rattle.diff.specs.Reading.{read_well, fault_at, read_from}
use Rattle.diff.specs.Prices.{Price, priced_word, prices_after, prices_from}
use Rattle.diff.specs.declared.Step.TheVariants.{Next, End, Fault}
use Rattle.diff.proofs.Reading.{WordCase, a_price, a_page, a_run, an_end, a_fault, word_case}

-- words that read well from a state and an index on, and their prices
pub data Reads (pages : ℕ) : Cursor → ℕ → List ℕ → List Price → Type 0 where
  reads_end : {s : Cursor} {index : ℕ} → s.due ≡ 0 → 0 < s.gap → Reads pages s index (end_word index ∷ []) []
  reads_page : {s : Cursor} {index p : ℕ} {ws : List ℕ} {ps : List Price}
      → s.due ≡ 0 → 0 < s.gap → s.next ≤ p → p < pages → p < 0x10000000
      → Reads pages (past_page s p) (index + 1) ws ps
      → Reads pages s index (page_word p ∷ ws) ps
  reads_run : {s : Cursor} {index o n : ℕ} {ws : List ℕ} {ps : List Price}
      → s.due ≡ 0 → 0 < s.next → 0 < n → o + n ≤ 32 → s.word + s.gap ≤ o
      → Reads pages (past_run s o n) (index + 1) ws ps → Reads pages s index (run_word o n ∷ ws) ps
  reads_price : {s : Cursor} {index w : ℕ} {ws : List ℕ} {ps : List Price}
      → 0 < s.due → Reads pages (past_price s) (index + 1) ws ps → Reads pages s index (w ∷ ws) (priced_word s w ∷ ps)

-- ---- what a word of each kind does, as an equation

module _ (pages : ℕ) (s : Cursor) (index : ℕ) where
  pub step_price : (w : ℕ) → 0 < s.due → word_step pages s index w ≡ Next (past_price s)
  unfolding word_step
  step_price w due = simp (lt-ltb 0 s.due due)

  pub step_page : (p : ℕ) → s.due ≡ 0 → 0 < s.gap → s.next ≤ p → p < pages → p < 0x10000000
      → word_step pages s index (page_word p) ≡ Next (past_page s p)
  unfolding word_step
  step_page p none gap up fits small =
      let k : kind (page_word p) ≡ 1 = omega arith in
      let l : low (page_word p) ≡ p = omega arith in
      simp (none, k, l, ne_eqb s.gap 0 (omega arith), le-ltb p s.next up, lt-leb pages p fits)

  pub step_run : (o n : ℕ) → s.due ≡ 0 → 0 < s.next → 0 < n → o + n ≤ 32 → s.word + s.gap ≤ o
      → word_step pages s index (run_word o n) ≡ Next (past_run s o n)
  unfolding word_step
  step_run o n none named some fits past =
      let k : kind (run_word o n) ≡ 2 = omega arith in
      let q : run_word o n / 0x10000 ≡ 0x2000 + o = omega arith in
      let f : offset (run_word o n) ≡ o = rw q (omega arith) in
      let g : count (run_word o n) ≡ n = omega arith in
      simp (
        none,
        k,
        f,
        g,
        ne_eqb s.next 0 (omega arith),
        ne_eqb n 0 (omega arith),
        le-ltb 32 (o + n) fits,
        le-ltb o (s.word + s.gap) past,
      )

  pub step_end : s.due ≡ 0 → 0 < s.gap → index < 0x10000000 → word_step pages s index (end_word index) ≡ End
  unfolding word_step
  step_end none gap small =
      let k : kind (end_word index) ≡ 15 = omega arith in
      let l : low (end_word index) ≡ index = omega arith in
      simp (none, k, l, ne_eqb s.gap 0 (omega arith), eq-eqb index index refl)

-- ---- a derivation is what reading finds

-- one word read, by what it does
module _ (pages : ℕ) (s : Cursor) (index w : ℕ) (ws : List ℕ) (step : Step) (does : word_step pages s index w ≡ step)
  where
    pub read_word : index < most_words
        → read_from pages (w ∷ ws) index s ≡ verdict_after (read_from pages ws (index + 1)) s index step
    unfolding read_from
    read_word few = simp (ne_eqb index most_words (omega arith), does)

    pub prices_word :
        prices_from pages (w ∷ ws) index s
        ≡ cond (ltb 0 s.due) (priced_word s w ∷ []) [] ++ prices_after (prices_from pages ws (index + 1)) step
    unfolding prices_from
    prices_word = simp does

good_as : {k k' n n' : ℕ} → k ≡ k' → n ≡ n' → read_well k n ≡ read_well k' n'
good_as e f = cc

-- whatever follows the end word
module _ (pages : ℕ) (rest : List ℕ) where
  pub reads_good_then : {s : Cursor} {index : ℕ} {ws : List ℕ} {ps : List Price} → Reads pages s index ws ps
      → index + length ws ≤ most_words
      → read_from pages (ws ++ rest) index s ≡ read_well (s.prices + length ps) (index + length ws)
  reads_good_then {s} {index} (reads_end none gap) few =
      read_word pages s index (end_word index) rest End (step_end pages s index none gap (omega arith)) (omega arith)
      ∙ rw add-zero
  reads_good_then {s} {index} (reads_page {p = p} {ws = ws} none gap up fits small later) few =
      read_word pages s index (page_word p) (ws ++ rest) _ (step_page pages s index p none gap up fits small)
      (omega arith)
      ∙ reads_good_then later (omega arith) ∙ good_as refl (omega arith)
  reads_good_then {s} {index} (reads_run {o = o} {n = n} {ws = ws} none named some fits past later) few =
      read_word pages s index (run_word o n) (ws ++ rest) _ (step_run pages s index o n none named some fits past)
      (omega arith)
      ∙ reads_good_then later (omega arith) ∙ good_as refl (omega arith)
  reads_good_then {s} {index} (reads_price {w = w} {ws = ws} due later) few =
      read_word pages s index w (ws ++ rest) _ (step_price pages s index w due) (omega arith)
      ∙ reads_good_then later (omega arith) ∙ good_as (omega arith) (omega arith)

  pub reads_prices_then : {s : Cursor} {index : ℕ} {ws : List ℕ} {ps : List Price} → Reads pages s index ws ps
      → index + length ws ≤ most_words → prices_from pages (ws ++ rest) index s ≡ ps
  reads_prices_then {s} {index} (reads_end none gap) few =
      prices_word pages s index (end_word index) rest End (step_end pages s index none gap (omega arith))
      ∙ simp (le-ltb 0 s.due (omega arith))
  reads_prices_then {s} {index} (reads_page {p = p} {ws = ws} none gap up fits small later) few =
      prices_word pages s index (page_word p) (ws ++ rest) _ (step_page pages s index p none gap up fits small)
      ∙ simp (le-ltb 0 s.due (omega arith), reads_prices_then later (omega arith))
  reads_prices_then {s} {index} (reads_run {o = o} {n = n} {ws = ws} none named some fits past later) few =
      prices_word pages s index (run_word o n) (ws ++ rest) _ (step_run pages s index o n none named some fits past)
      ∙ simp (le-ltb 0 s.due (omega arith), reads_prices_then later (omega arith))
  reads_prices_then {s} {index} (reads_price {w = w} {ws = ws} due later) few =
      prices_word pages s index w (ws ++ rest) _ (step_price pages s index w due)
      ∙ simp (lt-ltb 0 s.due due, reads_prices_then later (omega arith))

-- and where nothing follows
module _ (pages : ℕ) {s : Cursor} {index : ℕ} {ws : List ℕ} {ps : List Price} (reads : Reads pages s index ws ps)
    (few : index + length ws ≤ most_words) where
  pub reads_good : read_from pages ws index s ≡ read_well (s.prices + length ps) (index + length ws)
  reads_good = rw (append-nil ws) at (reads_good_then pages [] reads few)

  pub reads_prices : prices_from pages ws index s ≡ ps
  reads_prices = rw (append-nil ws) at (reads_prices_then pages [] reads few)

-- a rack with more pages reads it too
pub reads_more_pages : {pages pages' index : ℕ} {s : Cursor} {ws : List ℕ} {ps : List Price} → pages ≤ pages'
    → Reads pages s index ws ps → Reads pages' s index ws ps
reads_more_pages more (reads_end none gap) = reads_end none gap
reads_more_pages more (reads_page none gap up fits small later) =
    reads_page none gap up (lt_of_lt_of_le fits more) small (reads_more_pages more later)
reads_more_pages more (reads_run none named some fits past later) =
    reads_run none named some fits past (reads_more_pages more later)
reads_more_pages more (reads_price due later) = reads_price due (reads_more_pages more later)

pub reads_some : {pages index : ℕ} {s : Cursor} {ws : List ℕ} {ps : List Price} → Reads pages s index ws ps
    → 0 < length ws
reads_some (reads_end none gap) = omega arith
reads_some (reads_page none gap up fits small rest) = omega arith
reads_some (reads_run none named some fits past rest) = omega arith
reads_some (reads_price due rest) = omega arith

-- ---- what reading finds is a derivation

pub not_good : {place k n : ℕ} → fault_at place ≡ read_well k n → ⊥
not_good e = let z : ◌≡◌ {A = ℕ} 0 1 = cc in omega arith

same_extent : {a b : Extent} → ◌≡◌ {A = Verdict} (Ok a) (Ok b) → a ≡ b
same_extent e = cc

pub good_words : {k k' n n' : ℕ} → read_well k n ≡ read_well k' n' → n ≡ n'
good_words e = ap (λ (read : Extent). read.words) (same_extent e)

pub good_prices : {k k' n n' : ℕ} → read_well k n ≡ read_well k' n' → k ≡ k'
good_prices e = ap (λ (read : Extent). read.prices) (same_extent e)

pub no_words : (ws : List ℕ) → length ws ≡ 0 → ws ≡ []
no_words [] e = refl
no_words (w ∷ ws) e = absurd (omega arith)

-- reading goes well only within 512 words
module _ (pages k n w : ℕ) (ws : List ℕ) (s : Cursor) (index : ℕ) where
  pub after_word_lem : read_from pages (w ∷ ws) index s ≡ read_well k n
      → verdict_after (read_from pages ws (index + 1)) s index (word_step pages s index w) ≡ read_well k n
  unfolding read_from
  after_word_lem read = go (eqb index most_words) read
    where
      go : {v : Verdict} (over : Bool) → cond over (fault_at most_words) v ≡ read_well k n → v ≡ read_well k n
      go true e = absurd (not_good e)
      go false e = e

  pub before_limit : read_from pages (w ∷ ws) index s ≡ read_well k n → index ≡ most_words → ⊥
  unfolding read_from
  before_limit read full = not_good (simp (eq-eqb index most_words full) at read)

-- and the end word is one of the words
pub good_within : (pages k n : ℕ) (ws : List ℕ) (s : Cursor) (index : ℕ) → read_from pages ws index s ≡ read_well k n
    → n ≤ index + length ws
unfolding read_from
good_within pages k n [] s index read = absurd (not_good read)
good_within pages k n (w ∷ ws) s index read =
    go (word_step pages s index w) (after_word_lem pages k n w ws s index read)
    (λ t. good_within pages k n ws t (index + 1))
  where
    go : (step : Step) → verdict_after (read_from pages ws (index + 1)) s index step ≡ read_well k n
        → ((t : Cursor) → read_from pages ws (index + 1) t ≡ read_well k n → n ≤ index + 1 + length ws)
        → n ≤ index + suc (length ws)
    go (Next t) e rest = omega (arith, rest t e)
    go End e rest = omega (arith, good_words e)
    go Fault e rest = absurd (not_good e)

module _ (pages : ℕ) where
  -- words that read well from an index on, k prices in all, with nothing after their end word
  abbrev pub ReadsWhole : ℕ → List ℕ → ℕ → Cursor → Type 0
  ReadsWhole k ws index s = read_from pages ws index s ≡ read_well k (index + length ws)

  module _ (k w : ℕ) (ws : List ℕ) (s : Cursor) (index : ℕ) where
    as_word : {v : ℕ} {ps : List Price} → w ≡ v → Reads pages s index (v ∷ ws) ps → Reads pages s index (w ∷ ws) ps
    as_word {ps = ps} word = subst (λ (v : ℕ). Reads pages s index (v ∷ ws) ps) (sym word)

    by_word : (step : Step) → word_step pages s index w ≡ step → WordCase pages s index w step
        → verdict_after (read_from pages ws (index + 1)) s index step ≡ read_well k (index + 1 + length ws)
        → ((t : Cursor) → ReadsWhole k ws (index + 1) t
        → Reads pages t (index + 1) ws (prices_from pages ws (index + 1) t))
        → Reads pages s index (w ∷ ws) (prices_from pages (w ∷ ws) index s)
    by_word _ does (a_price due) read rest =
        rw (prices_word pages s index w ws _ does, lt-ltb 0 s.due due) (reads_price due (rest _ read))
    by_word _ does (a_page none one gap up fits) read rest =
        let word : w ≡ page_word (low w) = omega arith in
        rw (prices_word pages s index w ws _ does, le-ltb 0 s.due (omega arith))
        (as_word word (reads_page none gap up fits (omega arith) (rest _ read)))
    by_word _ does (a_run none two named some fits past) read rest =
        let word : w ≡ run_word (offset w) (count w) = omega arith in
        rw (prices_word pages s index w ws _ does, le-ltb 0 s.due (omega arith))
        (as_word word (reads_run none named some fits past (rest _ read)))
    by_word _ does (an_end none fifteen gap own) read rest =
        let word : w ≡ end_word index = omega arith in
        let last : ws ≡ [] = no_words ws (omega (arith, good_words read)) in
        rw (prices_word pages s index w ws _ does, le-ltb 0 s.due (omega arith), word, last) (reads_end none gap)
    by_word _ does (a_fault none) read rest = absurd (not_good read)

  pub reads_derived : (k : ℕ) (ws : List ℕ) (s : Cursor) (index : ℕ) → ReadsWhole k ws index s
      → Reads pages s index ws (prices_from pages ws index s)
  unfolding read_from
  reads_derived k [] s index read = absurd (not_good read)
  reads_derived k (w ∷ ws) s index read =
      by_word k w ws s index _ refl (word_case pages s index w)
      (after_word_lem pages k (index + 1 + length ws) w ws s index (read ∙ good_as refl (omega arith)))
      (λ t. reads_derived k ws t (index + 1))
