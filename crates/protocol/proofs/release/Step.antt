-- What a step makes of the words of live cards: the words that it writes, and the steps made.
use Rattle.std.specs.Prelude.{ℕ, suc, ◌+◌, ◌*◌, ◌/◌, ◌≤◌, ◌<◌, ◌≡◌, ◌≢◌, ◌⊎◌, List, true, length, get_or}
use Rattle.laws.proofs.Prelude.{◌∙◌, inl, inr, arith, lt-ltb, le-ltb}
use native.Mathlib.Numerals.{add-one}
use Rattle.directory.specs.declared.Directory.{Directory}
use Rattle.directory.specs.Directory.{is_live}
use Rattle.area.specs.Prelude.{index_of, AreaIn, load, store, area_size, desk_size, steps_made, release_desk, number_size}
use Rattle.area.specs.Prelude.{records_start, record_size, record_at, record_stamp, record_done, pages_start, page_size}
use Rattle.area.specs.Prelude.{tentative_half, committed_half, Release, own_release, open_release, steps_of, number_words}
use Rattle.area.proofs.Prelude.{index_same_card, index_same_offset, length-store, load-store_same, load-store_elsewhere}
use Rattle.area.proofs.Prelude.{length-load_run, SameOwn, SameRelease, length_number, In, NotIn, Contains, record_region}
use Rattle.area.proofs.Prelude.{list_region, records_apart, own_words_kept}
use Rattle.diff.specs.declared.Price.{Price}
use Rattle.diff.proofs.Stored.{OnPages, prices_on_pages, price_on_page}
use Rattle.protocol.specs.Release.{Write, write_of, no_write, price_write, size_of, open_prices, release_writes}
use Rattle.protocol.specs.Release.{make_write, close, step_memory}
use Rattle.protocol.proofs.release.Writes.{no_price, home_of, length_writes, Phase, phase, to_tentative, to_desk}
use Rattle.protocol.proofs.release.Writes.{to_stamp, to_committed, to_done, to_close, write_tentative}
use Rattle.protocol.proofs.release.Writes.{write_desk, write_stamp, write_committed, write_done}
use Rattle.protocol.proofs.release.WordAfter.{written, written_region}
use Rattle.protocol.proofs.release.OneWrite.{length_make_write, load_make_write, make_write_other}

-- ---- the writes of a release stand in its areas' records and pages

-- where a step of card c writes: in c's record, or in a page
pub record StepPlace (pages c : ℕ) (w : Write) : Type 0 where
  pub place : Contains (record_region c) (written_region w) ⊎ (pages_start ≤ w.offset)
  pub inside : w.offset + length w.words ≤ area_size pages

module _ (d : Directory) (backup c : ℕ) (r : Release) (ps : List Price) (eight : length r.desk ≡ desk_size)
    (few : c < 8) (on : OnPages d.pages ps) where
  price_place : (home : ℕ → ℕ) (i half : ℕ) → i < length ps → half ≤ page_size
      → StepPlace d.pages c (price_write home half (get_or ps i no_price))
  price_place home i half within small =
      let p = price_on_page d.pages ps i no_price on within in
      record { place = inr (omega arith); inside = omega arith }

  number_place : (offset : ℕ) → record_at c ≤ offset → offset + number_size ≤ record_at c + record_size
      → StepPlace d.pages c (write_of backup offset (number_words r.number))
  number_place offset above under =
      let long = length_number r.number in
      record { place = inl (omega arith, omega arith); inside = omega arith }

  pub write_place : (s : ℕ) → s < 4 * length ps + 10
      → StepPlace d.pages c (get_or (release_writes d backup c r ps) s no_write)
  write_place s before = go (phase (length ps) s (omega arith))
    where
      go : Phase (length ps) s → StepPlace d.pages c (get_or (release_writes d backup c r ps) s no_write)
      go (to_tentative early) =
          rw (write_tentative d backup c r ps eight s early)
          (price_place (home_of d s) (s / 2) tentative_half (omega arith) (omega arith))
      go (to_desk j at within) =
          rw (write_desk d backup c r ps eight s j at within)
          (record { place = inl (omega arith, omega arith); inside = omega arith })
      go (to_stamp at) =
          rw (write_stamp d backup c r ps eight s at) (number_place (record_stamp c) (omega arith) (omega arith))
      go (to_committed j at within) =
          rw (write_committed d backup c r ps eight s j at within)
          (price_place (home_of d j) (j / 2) committed_half (omega arith) (omega arith))
      go (to_done at) =
          rw (write_done d backup c r ps eight s at) (number_place (record_done c) (omega arith) (omega arith))
      go (to_close at) = absurd (omega arith)

-- ---- a step

-- the release that stands in card c's area: what a step goes by
pub record StandsIn (pages : ℕ) (m : List ℕ) (c : ℕ) (r : Release) (ps : List Price) (s : ℕ) : Type 0 where
  pub release : open_release (area_size pages) m c ≡ r
  pub prices : open_prices pages m c ≡ ps
  pub steps : steps_of (area_size pages) m c ≡ s

-- the store of the step after s steps
abbrev pub step_write : Directory → ℕ → ℕ → Release → List Price → ℕ → Write
step_write d backup c r ps s = get_or (release_writes d backup c r ps) s no_write

module _ (d : Directory) (backup : ℕ) (m : List ℕ) (c : ℕ) (area : AreaIn (length m) (size_of d) c) {r : Release}
    {ps : List Price} {s : ℕ} (stands : StandsIn d.pages m c r ps s) where
  eight : length r.desk ≡ desk_size
  unfolding open_release
  eight = rw (← stands.release) (length-load_run (size_of d) m c release_desk desk_size area (omega arith))

  on_pages_lem : OnPages d.pages ps
  on_pages_lem = rw (← stands.prices) (prices_on_pages d.pages _)

  count : length (release_writes d backup c r ps) ≡ 4 * length ps + 10
  count = length_writes d backup c r ps eight

  -- before the close: the write, and one step more made
  pub step_writes : s < 4 * length ps + 10
      → step_memory d backup m c ≡ store (size_of d) (make_write d.live (size_of d) m (step_write d backup c r ps s)) c
      steps_made (s + 1)
  unfolding step_memory
  step_writes before =
      rw (stands.release, stands.prices, stands.steps, count)
      (rw (lt-ltb s (4 * length ps + 10) before))

  pub step_closes : s ≡ 4 * length ps + 10 → step_memory d backup m c ≡ close (size_of d) m c
  unfolding step_memory
  step_closes at =
      rw (stands.release, stands.prices, stands.steps, count)
      (rw (le-ltb s (4 * length ps + 10) (omega arith)))

  module _ (few : c < 8) (before : s < 4 * length ps + 10) where
    abbrev w : Write
    w = step_write d backup c r ps s

    write_in : StepPlace d.pages c w
    write_in = write_place d backup c r ps eight few on_pages_lem s before

    pub length-step : length (step_memory d backup m c) ≡ length m
    length-step = rw (step_writes before) (length-store _ _ _ _ _ ∙ length_make_write d.live (size_of d) m w)

    pub steps-step : steps_of (size_of d) (step_memory d backup m c) c ≡ suc s
    unfolding steps_of
    steps-step =
        rw (step_writes before)
        (load-store_same (size_of d) _ c steps_made (s + 1) (rw length_make_write area) (omega arith) ∙ add-one s)

    -- beside the steps, the write alone tells
    beside_steps : (h o : ℕ) → o < size_of d → (h ≡ c → o ≢ steps_made)
        → load (size_of d) (step_memory d backup m c) h o ≡ load (size_of d) (make_write d.live (size_of d) m w) h o
    beside_steps h o inside other =
        rw (step_writes before) (load-store_elsewhere (size_of d) _ c steps_made (s + 1) h o apart)
      where
        apart : index_of (size_of d) h o ≢ index_of (size_of d) c steps_made
        apart e =
            other (index_same_card (size_of d) h o c steps_made inside (omega arith) e)
            (index_same_offset (size_of d) h o c steps_made inside (omega arith) e)

    -- a word of a live card, but for the steps
    pub load_step : (h o : ℕ) → is_live d h ≡ true → AreaIn (length m) (size_of d) h → o < size_of d
        → (h ≡ c → o ≢ steps_made)
        → load (size_of d) (step_memory d backup m c) h o ≡ written w h o (load (size_of d) m h o)
    load_step h o up area' inside other =
        beside_steps h o inside other
        ∙ load_make_write d.live (size_of d) m w write_in.inside h o up area' inside

    -- one that is at no offset of the write
    unwritten : (x o : ℕ) → o < size_of d → (x ≡ c → o ≢ steps_made) → NotIn (written_region w) o
        → load (size_of d) (step_memory d backup m c) x o ≡ load (size_of d) m x o
    unwritten x o inside other apart =
        beside_steps x o inside other ∙ make_write_other d.live (size_of d) m w write_in.inside x o inside apart

    -- what a card's own words say stays, but for the steps of c
    own_word : (x o : ℕ) → (x ≡ c → o ≢ steps_made) → (o < records_start) ⊎ In list_region o
        → load (size_of d) (step_memory d backup m c) x o ≡ load (size_of d) m x o
    own_word x o other place = unwritten x o (fits place) other (apart place write_in.place)
      where
        fits : (o < records_start) ⊎ In list_region o → o < size_of d
        fits (inl low) = omega arith
        fits (inr list) = omega arith

        apart : (o < records_start) ⊎ In list_region o
            → Contains (record_region c) (written_region w) ⊎ (pages_start ≤ w.offset) → NotIn (written_region w) o
        apart (inl low) (inl records) here = omega arith
        apart (inl low) (inr page) here = omega arith
        apart (inr list) (inl records) here = omega (arith, few)
        apart (inr list) (inr page) here = omega arith

    -- the record of another card
    pub step_keeps_record : (x h o : ℕ) → x < 8 → x ≢ c → In (record_region x) o
        → load (size_of d) (step_memory d backup m c) h o ≡ load (size_of d) m h o
    step_keeps_record x h o small other in-record =
        unwritten h o (omega arith) (λ _ e. omega arith) (apart write_in.place)
      where
        apart : Contains (record_region c) (written_region w) ⊎ (pages_start ≤ w.offset) → NotIn (written_region w) o
        apart (inl records) here = records_apart other in-record (omega arith, omega arith)
        apart (inr page) here = omega arith

    -- the own stamp and desk of every card
    pub step_keeps_own : (x : ℕ)
        → own_release (size_of d) (step_memory d backup m c) x ≡ own_release (size_of d) m x
    step_keeps_own x =
        own_words_kept (size_of d) m _ x length-step (λ o own. own_word x o (λ _. omega arith) (inl (omega arith)))

    pub step_keeps : SameRelease (size_of d) m (step_memory d backup m c) c
    step_keeps =
        record {
          same_length = length-step;
          low = λ o small other. own_word c o (λ _. other) (inl small);
          list = λ o inside. own_word c o (λ _. omega arith) (inr inside);
        }

    pub step_keeps_other : (x : ℕ) → x ≢ c → SameOwn (size_of d) m (step_memory d backup m c) x
    step_keeps_other x other =
        record {
          same_length = length-step;
          low = λ o small. own_word x o (λ same. absurd (other same)) (inl small);
          list = λ o inside. own_word x o (λ same. absurd (other same)) (inr inside);
        }
