-- Inner contracts only. Refusal 10: the prices of a list, counted, and the pages that they name.
-- Assumes nothing: these are definitions.
use Rattle.std.specs.Prelude.{ℕ, List, Bool, false, cond, ◌&&◌, ◌||◌, length, get_or, set, leb}
use Rattle.area.specs.Prelude.{area_size, steps_of, has_open_release}
use Rattle.diff.specs.declared.Price.{Price}
use Rattle.protocol.specs.Release.{open_prices, counts_at}
use Rattle.protocol.specs.Fetch.{names_page}
use Rattle.conflict.specs.Marks.{marked}
pub use Rattle.conflict.specs.declared.motion.Tally.{Tally}

-- the page of a price
abbrev pub page_of : Price → ℕ
page_of p = p.page

-- how many prices there are, and whether one is on the page
abbrev pub tally_of : List Price → ℕ → Tally
tally_of ps page = record { prices = length ps; named = names_page ps page }

-- a page marked if it has a mark among others
abbrev pub join_mark : List Bool → ℕ → List Bool → List Bool
join_mark more page marks = set marks page (get_or more page false || get_or marks page false)

-- the pages that the release open on a card names, if it counts already, marked
unfoldable pub mark_motion : List Bool → ℕ → List ℕ → ℕ → List Bool → List Bool
mark_motion live pages m c marks =
    cond
    (has_open_release live (area_size pages) m c
    && leb (counts_at (length (open_prices pages m c))) (steps_of (area_size pages) m c))
    (marked page_of (open_prices pages m c) marks) marks
