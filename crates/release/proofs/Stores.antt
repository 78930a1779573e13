-- The store of each step: the store that the code makes is the one that the definition has at this place.
use Rattle.std.specs.Prelude.{ℕ, ◌+◌, ◌*◌, ◌/◌, ◌%◌, ◌<◌, ◌≤◌, ◌≡◌, List, [], ◌∷◌, Bool, true, false, length, get_or}
use Rattle.std.specs.Prelude.{eqb}
use Rattle.laws.proofs.Prelude.{refl, sym, ◌∙◌, arith}
use Rattle.laws.proofs.Bools.{by_cond}
use Rattle.directory.specs.declared.Directory.{Directory}
use Rattle.directory.specs.Directory.{live_at}
use Rattle.area.specs.Prelude.{AreaIn, load, store, store_run, desk_size, steps_made, release_desk}
use Rattle.area.specs.Prelude.{page_at, pages_start, tentative_half, committed_half, Release, open_release, steps_of}
use Rattle.area.proofs.Prelude.{get_or-load_run, length-load_run, store_run_one}
use Rattle.diff.specs.declared.Price.{Price}
use Rattle.protocol.specs.Release.{size_of, open_prices, Write, write_of, no_write, price_writes, make_write, close}
use Rattle.protocol.specs.Release.{step_memory}
use Rattle.protocol.proofs.release.Writes.{no_price, price_write_at, write_tentative, write_desk, write_stamp}
use Rattle.protocol.proofs.release.Writes.{write_committed, write_done}
use Rattle.protocol.proofs.release.Step.{StandsIn, step_writes, step_closes}
use Rattle.release.specs.Stepping.{CardIn, HomesOf, store_after, home_at}
use Rattle.release.specs.Phases.{HalfFrom, tentative, committed, RecordStore, Desk, Stamp, Done, NextRecord, store_of, record_write}
use Rattle.release.proofs.Prices.{PriceAt}

-- ---- a store by the mark of its card

module _ (marks : List Bool) (size : ℕ) (m : List ℕ) (w : Write) where
  pub write_made : live_at marks w.card ≡ true
      → make_write marks size m w ≡ store_run size m w.card w.offset w.words
  unfolding make_write
  write_made live = rw live

  -- of one word
  pub word_made : (v : ℕ) → w.words ≡ v ∷ [] → live_at marks w.card ≡ true
      → make_write marks size m w ≡ store size m w.card w.offset v
  word_made v one live = write_made live ∙ rw one (store_run_one size m w.card w.offset v)

  pub write_dropped : live_at marks w.card ≡ false → make_write marks size m w ≡ m
  unfolding make_write
  write_dropped dead = rw dead

-- ---- the store in the record

pub record_card : (backup card : ℕ) (r : Release) (s : RecordStore) → (record_write backup card r s).card ≡ backup
record_card backup card r (Desk j) = refl
record_card backup card r Stamp = refl
record_card backup card r Done = refl

-- it comes before the close
pub record_below : (k steps : ℕ) (s : RecordStore) → NextRecord k steps s → steps < 4 * k + 10
record_below k steps (Desk j) at = omega arith
record_below k steps Stamp at = omega arith
record_below k steps Done at = omega arith

-- ---- the desk of the open release

module _ (size : ℕ) (m : List ℕ) (card : ℕ) where
  pub length-desk : pages_start ≤ size → AreaIn (length m) size card → length (open_release size m card).desk ≡ desk_size
  unfolding open_release
  length-desk big area = length-load_run size m card release_desk desk_size area (omega arith)

  pub desk_word : (j : ℕ) → j < desk_size → get_or (open_release size m card).desk j 0 ≡ load size m card (release_desk + j)
  unfolding open_release
  desk_word j within = get_or-load_run size m card release_desk desk_size j within

-- ---- a price at a home of its page

pub home_in : (d : Directory) {words : ℕ} → HomesOf d words → (number page : ℕ) → page < d.pages
    → CardIn d.live words (size_of d) (home_at d number page)
home_in d {words} homes number page below =
    by_cond (λ (home : ℕ → ℕ). CardIn d.live words (size_of d) (home page)) (eqb (number % 2) 0) _ _
    (λ _. homes.secondary_in page below) (λ _. homes.primary_in page below)

price_store : (d : Directory) (half : ℕ) (ps : List Price) (number : ℕ) {p : Price} {home : ℕ}
    → number < 2 * length ps → p ≡ get_or ps (number / 2) no_price
    → home ≡ home_at d number p.page
    → write_of home (page_at p.page + (half + p.word)) (p.price ∷ []) ≡ get_or (price_writes d half ps) number no_write
price_store d half ps number within is at_home = rw (at_home, is) (sym (price_write_at d half ps number within))

-- ---- the store of each step, and the step

-- the release as it stands in its card's area
pub stands_here : (d : Directory) (m : List ℕ) (card : ℕ) {steps : ℕ} → steps ≡ steps_of (size_of d) m card
    → StandsIn d.pages m card (open_release (size_of d) m card) (open_prices d.pages m card) steps
stands_here d m card made = record { release = refl; prices = refl; steps = sym made }

module _ (d : Directory) (backup : ℕ) (m : List ℕ) (card steps : ℕ) (area : AreaIn (length m) (size_of d) card) where
  abbrev release : Release
  release = open_release (size_of d) m card

  abbrev prices : List Price
  prices = open_prices d.pages m card

  abbrev stored : Write
  stored = store_after d backup m card steps

  eight : length release.desk ≡ desk_size
  eight = length-desk (size_of d) m card (omega arith) area

  pub record_store : (s : RecordStore) → NextRecord (length prices) steps s → record_write backup card release s ≡ stored
  record_store (Desk j) at = sym (write_desk d backup card release prices eight steps j at.0 at.1)
  record_store Stamp at = sym (write_stamp d backup card release prices eight steps at)
  record_store Done at = sym (write_done d backup card release prices eight steps at)

  -- a price in its half
  half_store : {first half : ℕ} (at : ℕ) → HalfFrom (length prices) first half → steps ≡ first + at
      → at < 2 * length prices → get_or (price_writes d half prices) at no_write ≡ stored
  half_store at (tentative start is) from within =
      let same : at ≡ steps = omega arith in
      rw (is, same)
      (price_write_at d tentative_half prices steps (omega arith)
      ∙ sym (write_tentative d backup card release prices eight steps (omega arith)))
  half_store at (committed start is) from within =
      rw is
      (price_write_at d committed_half prices at within
      ∙ sym (write_committed d backup card release prices eight steps at (omega arith) within))

  module _ (made : steps ≡ steps_of (size_of d) m card) where
    -- the store that is due, counted
    pub step_counted : {w : Write} {next : List ℕ} → steps < 4 * length prices + 10 → w ≡ stored
        → next ≡ store (size_of d) (make_write d.live (size_of d) m w) card steps_made (steps + 1)
        → next ≡ step_memory d backup m card
    step_counted below is e = (rw is at e) ∙ sym (step_writes d backup m card area (stands_here d m card made) below)

    pub step-closed : steps ≡ 4 * length prices + 10 → step_memory d backup m card ≡ close (size_of d) m card
    step-closed = step_closes d backup m card area (stands_here d m card made)

-- ---- a price that is due

module _ (d : Directory) where
  pub price_due_lem : (backup : ℕ) (m : List ℕ) (c steps : ℕ) (p : Price) (at : ℕ) {k first half : ℕ}
      → AreaIn (length m) (size_of d) c → k ≡ length (open_prices d.pages m c) → HalfFrom k first half
      → steps ≡ first + at → at < 2 * k → PriceAt d.pages m c (at / 2) p
      → store_of d at half p ≡ store_after d backup m c steps
  price_due_lem backup m c steps p at {half = half} area counted from here within price =
      price_store d half (open_prices d.pages m c) at (omega arith) price.is refl
      ∙ half_store d backup m c steps area at (rw counted at from) here (omega arith)
