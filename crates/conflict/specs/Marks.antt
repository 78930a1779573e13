-- Inner contracts only. Marks of prices, each at its place.
-- Assumes nothing: these are definitions.
use Rattle.std.specs.Prelude.{ℕ, List, [], ◌∷◌, Bool, true, set}
use Rattle.diff.specs.declared.Price.{Price}

-- every price marked at its place
unfoldable pub marked : (Price → ℕ) → List Price → List Bool → List Bool
marked place [] marks = marks
marked place (p ∷ ps) marks = marked place ps (set marks (place p) true)
