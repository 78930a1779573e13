-- Inner contracts only. Refusal 8 by marks: the labels that a list names are marked, and another card's open release
-- prices a marked one.
-- Assumes nothing: these are definitions.
use Rattle.std.specs.Prelude.{ℕ, List, [], ◌∷◌, Bool, false, ◌&&◌, ◌||◌, get_or}
use Rattle.area.specs.Prelude.{area_size}
use Rattle.diff.specs.declared.Price.{Price}
use Rattle.diff.specs.Prices.{label_of}
use Rattle.protocol.specs.Release.{open_prices}
use Rattle.conflict.specs.Others.{is_other}

-- whether some price has a marked label
unfoldable pub any_marked : List Price → List Bool → Bool
any_marked [] marks = false
any_marked (p ∷ ps) marks = get_or marks (label_of p) false || any_marked ps marks

-- another card with a release open that prices a marked label
unfoldable pub marks_with : List Bool → ℕ → List ℕ → ℕ → List Bool → ℕ → Bool
marks_with live pages m c marks other =
    is_other live (area_size pages) m c other && any_marked (open_prices pages m other) marks
