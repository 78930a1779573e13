-- Inner contracts only. What recovery and join rely on, as a rack that passed its checks has it; and what they do on
-- one card, as far as `protocol` has no name for it.
use Rattle.std.specs.Prelude.{ℕ, ◌+◌, ◌*◌, ◌<◌, ◌≤◌, ◌≡◌, List, Bool, true, false, cond, ◌&&◌, length, eqb}
use Rattle.directory.specs.declared.Directory.{Directory}
use Rattle.directory.specs.declared.Header.{Header}
use Rattle.directory.specs.Directory.{live_at, is_live, backup_of}
use Rattle.directory.specs.NewHome.{Another}
use Rattle.area.specs.Prelude.{copy_run, store_run, area_size, record_at, page_size, page_at}
use Rattle.protocol.specs.Release.{size_of}

-- marks of at most 8 cards, and a memory of one area for each card
pub record RackIn (d : Directory) (words : ℕ) : Type 0 where
  pub few : d.pages ≤ 64
  pub eight : d.cards ≤ 8
  pub marks : length d.live ≡ 8
  pub whole : words ≡ d.cards * size_of d

-- a live card, as a rack always has
pub record SomeLive (d : Directory) : Type 0 where
  pub card : ℕ
  pub below : card < d.cards
  pub up : is_live d card ≡ true

-- other than any card there is a live one, since a rack that passed its checks has two
abbrev pub OtherLive : Directory → Type 0
OtherLive d = (c : ℕ) → Another d c

-- a card that failed: it is dead
abbrev pub FailedIn : Directory → ℕ → Type 0
FailedIn d f = (f < 8) × (is_live d f ≡ false)

-- at a home that is live, one half of a page copied to the other; a half is named by its place in the page
unfoldable pub copy_at_home : Header → ℕ → ℕ → ℕ → ℕ → List ℕ → List ℕ
copy_at_home h home page from to m =
    cond (live_at h.live home)
    (copy_run (area_size h.pages) m home (page_at page + from) home (page_at page + to) page_size)
    m

-- the record of a failed card, given by its words, stored on a card if that is live
abbrev pub store_failed : Header → ℕ → List ℕ → ℕ → List ℕ → List ℕ
store_failed h failed words holder m =
    cond (live_at h.live holder) (store_run (area_size h.pages) m holder (record_at failed) words) m

-- a card that is live by these marks, and whose backup by a directory is a given one
abbrev pub backed_by : List Bool → Directory → ℕ → ℕ → Bool
backed_by live d backup c = live_at live c && eqb (backup_of d c) backup
