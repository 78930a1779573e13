-- Inner contracts only. The other cards of a rack that have a release open.
-- Assumes nothing: this is a definition.
use Rattle.std.specs.Prelude.{ℕ, List, Bool, not, ◌&&◌, eqb}
use Rattle.area.specs.Prelude.{has_open_release}

-- another card than c, with a release open
unfoldable pub is_other : List Bool → ℕ → List ℕ → ℕ → ℕ → Bool
is_other live size m c other = not (eqb other c) && has_open_release live size m other
