-- How prices become words: the header and the run of a price by where it stands, and prices in ascending order.
use Rattle.std.specs.Prelude.{ℕ, suc, ◌+◌, ◌*◌, ◌≤◌, ◌<◌, ◌≡◌, List, [], ◌∷◌, ◌++◌, Bool, true, false, ◌&&◌, eqb}
use Rattle.laws.proofs.Prelude.{refl, arith, le-leb, lt-leb, eq-eqb, ne_eqb, eqb-true}
use Rattle.laws.proofs.Bools.{and_first, and_second}
use Rattle.diff.specs.Format.{page_word, run_word}
use Rattle.diff.specs.Prices.{Price, label_of}
use Rattle.diff.specs.Encoding.{follows, run_length, run_header, encode_from}

-- prices on words of a rack's pages, their labels ascending from `next` on
pub data Ascending (pages : ℕ) : ℕ → List Price → Type 0 where
  none : {next : ℕ} → Ascending pages next []
  more : {next : ℕ} {p : Price} {ps : List Price} → next ≤ label_of p → p.word < 32 → p.page < pages
      → Ascending pages (label_of p + 1) ps → Ascending pages next (p ∷ ps)

-- they also ascend from a lower label on
pub ascending_from : {pages low next : ℕ} {ps : List Price} → low ≤ next → Ascending pages next ps
    → Ascending pages low ps
ascending_from h none = none
ascending_from {low = low} h (more {p = p} up word page rest) = more {next = low} {p = p} (omega arith) word page rest

-- ---- the next word of the same page

module _ (p q : Price) where
  pub follows_yes : q.page ≡ p.page → q.word ≡ p.word + 1 → follows p q ≡ true
  follows_yes page word = rw (eq-eqb q.page p.page page, eq-eqb q.word (p.word + 1) word)

  pub follows_no_page : (q.page ≡ p.page → ⊥) → follows p q ≡ false
  follows_no_page page = rw (ne_eqb q.page p.page page)

  pub follows_no_word : (q.word ≡ p.word + 1 → ⊥) → follows p q ≡ false
  follows_no_word word = go (eqb q.page p.page)
    where
      go : (same : Bool) → same && eqb q.word (p.word + 1) ≡ false
      go true = ne_eqb q.word (p.word + 1) word
      go false = refl

  pub follows_page : follows p q ≡ true → q.page ≡ p.page
  follows_page e = eqb-true q.page p.page (and_first (eqb q.page p.page) _ e)

  pub follows_word : follows p q ≡ true → q.word ≡ p.word + 1
  follows_word e = eqb-true q.word (p.word + 1) (and_second (eqb q.page p.page) _ e)

-- ---- the length of a run

module _ (p q : Price) (qs : List Price) where
  pub run_goes_on : follows p q ≡ true → run_length p (q ∷ qs) ≡ suc (run_length q qs)
  unfolding run_length
  run_goes_on e = rw e

  pub run_stops : follows p q ≡ false → run_length p (q ∷ qs) ≡ 1
  unfolding run_length
  run_stops e = rw e

pub run_last : (p : Price) → run_length p [] ≡ 1
unfolding run_length
run_last p = refl

-- ---- the words before a price

module _ (next : ℕ) (p : Price) (run : ℕ) where
  pub run_header_page : next ≤ 32 * p.page → run_header next p run ≡ page_word p.page ∷ run_word p.word run ∷ []
  unfolding run_header
  run_header_page h = simp (le-leb next (32 * p.page) h)

  pub run_header_run : 32 * p.page < next → (next ≡ label_of p → ⊥) → run_header next p run ≡ run_word p.word run ∷ []
  unfolding run_header
  run_header_run h n = simp (lt-leb next (32 * p.page) h, ne_eqb next (label_of p) n)

  pub run_header_none : 32 * p.page < next → next ≡ label_of p → run_header next p run ≡ []
  unfolding run_header
  run_header_none h e = simp (lt-leb next (32 * p.page) h, eq-eqb next (label_of p) e)

pub encode_none : (next : ℕ) → encode_from next [] ≡ []
unfolding encode_from
encode_none next = refl

-- a price with its header, by what the header is
pub encode_price : (next : ℕ) (p : Price) (ps : List Price) (ws : List ℕ) → run_header next p (run_length p ps) ≡ ws
    → encode_from next (p ∷ ps) ≡ ws ++ p.price ∷ encode_from (label_of p + 1) ps
unfolding encode_from
encode_price next p ps ws e = rw e
