-- What a card's area says of the card's own releases: the last one that it closed, and the open one.
-- Assumes nothing: these are definitions.
use Rattle.std.specs.Prelude.{ℕ, List, ◌++◌, Bool, ◌&&◌, eqb}
use Rattle.memory.specs.Words.{load, load_run}
use Rattle.directory.specs.Directory.{live_at}
use Rattle.area.specs.Layout.{desk_size, own_stamp, own_desk, open_flag, steps_made, release_number, release_desk}
use Rattle.area.specs.Layout.{list_start, list_size}
use Rattle.area.specs.Numbers.{number_words, load_number}

-- a release's number and the 8 words that its desk wants back
pub record Release : Type 0 where
  pub number : ℕ
  pub desk : List ℕ

abbrev pub release_of : ℕ → List ℕ → Release
release_of number desk = record { number = number; desk = desk }

-- the words that they are stored as, one after the other
abbrev pub release_words : Release → List ℕ
release_words r = number_words r.number ++ r.desk

-- the last release that the card closed, as its own stamp and desk; number 0 if none
unfoldable pub own_release : ℕ → List ℕ → ℕ → Release
own_release size m c = record { number = load_number size m c own_stamp; desk = load_run size m c own_desk desk_size }

-- the open one
unfoldable pub open_release : ℕ → List ℕ → ℕ → Release
open_release size m c =
    record { number = load_number size m c release_number; desk = load_run size m c release_desk desk_size }

unfoldable pub open_list : ℕ → List ℕ → ℕ → List ℕ
open_list size m c = load_run size m c list_start list_size

unfoldable pub steps_of : ℕ → List ℕ → ℕ → ℕ
steps_of size m c = load size m c steps_made

-- "An open release always means one on a live card."
unfoldable pub has_open_release : List Bool → ℕ → List ℕ → ℕ → Bool
has_open_release marks size m c = live_at marks c && eqb (load size m c open_flag) 1
