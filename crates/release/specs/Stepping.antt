-- Inner contracts only. What a step relies on: a memory of its stated length, homes that are cards, and a release whose
-- list reads well. A rack that passed its checks has it.
use Rattle.std.specs.Prelude.{ℕ, ◌*◌, ◌+◌, ◌-◌, ◌%◌, ◌<◌, ◌≤◌, ◌≡◌, List, Bool, cond, length, get_or}
use Rattle.std.specs.Prelude.{eqb}
use Rattle.directory.specs.declared.Directory.{Directory}
use Rattle.directory.specs.declared.Header.{Header}
use Rattle.directory.specs.Directory.{directory_by, primary_of, secondary_of}
use Rattle.area.specs.Prelude.{AreaIn, area_size}
use Rattle.area.specs.Prelude.{list_size, open_release, open_list, steps_of}
use Rattle.diff.specs.declared.Price.{Price}
use Rattle.diff.specs.Reading.{read_well, read_diff}
use Rattle.protocol.specs.Release.{size_of, open_prices, steps_in, Write, no_write, release_writes, make_write}
use Rattle.release.specs.declared.view.DirectoryView.{DirectoryView}

-- a card with a mark, and with an area in a memory of so many words
pub record CardIn (live : List Bool) (words size card : ℕ) : Type 0 where
  pub eight : card < 8
  pub marked : card < length live
  pub area : AreaIn words size card

abbrev pub CardOf : Header → ℕ → ℕ → Type 0
CardOf h words card = CardIn h.live words (area_size h.pages) card

-- all homes are such cards
pub record HomesIn (live : List Bool) (pages : ℕ) (primary secondary : List ℕ) (words : ℕ) : Type 0 where
  pub few : pages ≤ 64
  pub primaries : pages ≤ length primary
  pub secondaries : pages ≤ length secondary
  pub primary_in : (p : ℕ) → p < pages → CardIn live words (area_size pages) (get_or primary p 0)
  pub secondary_in : (p : ℕ) → p < pages → CardIn live words (area_size pages) (get_or secondary p 0)

abbrev pub HomesOf : Directory → ℕ → Type 0
HomesOf d words = HomesIn d.live d.pages d.primary d.secondary words

-- a release whose list reads well, and which has made no more than 4k + 10 steps
pub record GoodRelease (pages : ℕ) (m : List ℕ) (card : ℕ) : Type 0 where
  pub k : ℕ
  pub words : ℕ
  pub reads : read_diff pages (open_list (area_size pages) m card) ≡ read_well k words
  pub under : steps_of (area_size pages) m card ≤ 4 * k + 10

-- a release of k prices, by its list
pub record Counted (pages : ℕ) (m : List ℕ) (card k : ℕ) : Type 0 where
  pub prices : k ≡ length (open_prices pages m card)
  pub few : k < list_size
  pub under : steps_of (area_size pages) m card ≤ 4 * k + 10

-- one that has so many steps left at least, the close among them
pub record StepsLeft (pages : ℕ) (m : List ℕ) (card k left : ℕ) : Type 0 where
  pub prices : k ≡ length (open_prices pages m card)
  pub few : k < list_size
  pub counts : steps_of (area_size pages) m card + left ≤ 4 * k + 11

-- how many it has left
abbrev pub left_of : ℕ → List ℕ → ℕ → ℕ
left_of pages m card = steps_in (length (open_prices pages m card)) - steps_of (area_size pages) m card

-- the store of the step after so many
abbrev pub store_after : Directory → ℕ → List ℕ → ℕ → ℕ → Write
store_after d backup m card steps =
    get_or (release_writes d backup card (open_release (size_of d) m card) (open_prices d.pages m card)) steps no_write

-- the memory after it
abbrev pub after_store : Directory → ℕ → List ℕ → ℕ → ℕ → List ℕ
after_store d backup m card steps = make_write d.live (size_of d) m (store_after d backup m card steps)

-- p is the price of this number of the release open on a card, if it has so many
abbrev pub NumberedPrice : ℕ → List ℕ → ℕ → ℕ → Price → Type 0
NumberedPrice pages m card n p = get_or (open_prices pages m card) n p ≡ p

-- a table of the prices of the release open on a card
pub record Listed (pages : ℕ) (m : List ℕ) (card : ℕ) (prices : List Price) : Type 0 where
  pub is : (n : ℕ) (p : Price) → NumberedPrice pages m card n (get_or prices n p)

-- the directory that is viewed
abbrev pub viewed : DirectoryView → Directory
viewed v = directory_by v.header v.primary.now v.secondary.now

-- the home of a page that the store of this number goes to, among those of one half: secondary if even, else primary
abbrev pub home_at : Directory → ℕ → ℕ → ℕ
home_at d number = cond (eqb (number % 2) 0) (secondary_of d) (primary_of d)
