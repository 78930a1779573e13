-- A release and its 4k + 11 steps (document 01, "A release and its 4k + 11 steps").
-- Assumes nothing: these are definitions.
use Rattle.std.specs.Prelude.{ℕ, suc, ◌+◌, ◌*◌, List, [], ◌∷◌, ◌++◌, Bool, cond, length, get_or, ltb}
use Rattle.directory.specs.declared.Directory.{Directory}
use Rattle.directory.specs.Directory.{live_at, primary_of, secondary_of}
use Rattle.area.specs.Prelude.{store, store_run, clear_run, area_size, own_stamp, open_flag, steps_made, release_size}
use Rattle.area.specs.Prelude.{record_stamp, record_done, record_desk, list_start, list_size, page_at, tentative_half}
use Rattle.area.specs.Prelude.{committed_half, number_words, Release, release_words, open_release, open_list, steps_of}
use Rattle.diff.specs.declared.Price.{Price}
use Rattle.diff.specs.Prices.{prices_of}

-- the words of one card's area
abbrev pub size_of : Directory → ℕ
size_of d = area_size d.pages

-- the prices of the release open on a card, by its list
abbrev pub open_prices : ℕ → List ℕ → ℕ → List Price
open_prices pages m c = prices_of pages (open_list (area_size pages) m c)

-- ---- its stores in order

-- words to be stored in a card's area, from an offset on, all at once
pub record Write : Type 0 where
  pub card : ℕ
  pub offset : ℕ
  pub words : List ℕ

abbrev pub write_of : ℕ → ℕ → List ℕ → Write
write_of card offset words = record { card = card; offset = offset; words = words }

-- a price at a home of its page, in the tentative or the committed half of the page
abbrev pub price_write : (ℕ → ℕ) → ℕ → Price → Write
price_write home half p = write_of (home p.page) (page_at p.page + (half + p.word)) (p.price ∷ [])

-- "for each price in order, the .. word at the secondary, then at the primary"
abbrev pub price_writes : Directory → ℕ → List Price → List Write
price_writes d half [] = []
price_writes d half (p ∷ ps) = price_write (secondary_of d) half p ∷ price_write (primary_of d) half p ∷ price_writes d half
    ps

-- words stored at a card one after the other
abbrev pub run_writes : ℕ → ℕ → List ℕ → List Write
run_writes card offset [] = []
run_writes card offset (v ∷ vs) = write_of card offset (v ∷ []) ∷ run_writes card (suc offset) vs

-- the stores of card c's release, numbered as document 01 numbers them
unfoldable pub release_writes : Directory → ℕ → ℕ → Release → List Price → List Write
release_writes d backup c r ps =
    -- 1. the tentative words
    price_writes d tentative_half ps
    -- 2. "the desk words in order to the backup, even desk if the number is even, else odd"
    ++ (run_writes backup (record_desk c r.number) r.desk
    -- 3. "the stamp at the backup (step 2k + 9; from here the release counts)"
    ++ (write_of backup (record_stamp c) (number_words r.number)
    -- 4. the committed words
    ∷ (price_writes d committed_half ps
    -- 5. "the done mark at the backup"
    ++ write_of backup (record_done c) (number_words r.number) ∷ [])))

-- "step 2k + 9; from here the release counts"
abbrev pub counts_at : ℕ → ℕ
counts_at k = 2 * k + 9

-- the steps of a release of k prices, the close among them
abbrev pub steps_in : ℕ → ℕ
steps_in k = 4 * k + 11

-- ---- one step

-- A store meant for a dead card is dropped ("Failure, recovery, join"). On a running rack the homes and the backup of
-- a live card are live.
unfoldable pub make_write : List Bool → ℕ → List ℕ → Write → List ℕ
make_write marks size m w = cond (live_at marks w.card) (store_run size m w.card w.offset w.words) m

-- 6. the close: "own stamp and desk are set and words 9 to 675 apart from 20 to 163 become 0"; since document 02,
-- request 5, these are the words 10 to 693 apart from 22 to 181
unfoldable pub close : ℕ → List ℕ → ℕ → List ℕ
close size m c =
    clear_run size
    (clear_run size
    (store_run size m c own_stamp (release_words (open_release size m c)))
    c open_flag release_size)
    c list_start list_size

abbrev pub no_write : Write
no_write = write_of 0 0 []

-- "Each step makes one store and, but for the close, adds 1 to word 10", which is now word 11.
unfoldable pub step_memory : Directory → ℕ → List ℕ → ℕ → List ℕ
step_memory d backup m c =
    let writes : List Write = release_writes d backup c (open_release (size_of d) m c) (open_prices d.pages m c) in
    let steps : ℕ = steps_of (size_of d) m c in
    cond (ltb steps (length writes))
    (store (size_of d) (make_write d.live (size_of d) m (get_or writes steps no_write)) c steps_made (steps + 1))
    (close (size_of d) m c)
