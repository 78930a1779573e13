-- The prices of another card's list: what the next one finds, and what they say of the card.
use Rattle.std.specs.Prelude.{ℕ, ◌≡◌, List, [], ◌∷◌, Bool, true, false, get_or}
use Rattle.diff.specs.declared.Price.{Price}
use Rattle.diff.specs.Prices.{label_of}
use Rattle.area.specs.Prelude.{area_size}
use Rattle.protocol.specs.Release.{open_prices}
use Rattle.conflict.specs.Others.{is_other}
use Rattle.conflict.specs.Sharing.{any_marked, marks_with}

-- the first of the prices that are left
module _ {ps qs : List Price} {p : Price} (here : ps ≡ p ∷ qs) (marks : List Bool) where
  pub any_hit : get_or marks (label_of p) false ≡ true → any_marked ps marks ≡ true
  unfolding any_marked
  any_hit is = rw (here, is)

  pub any_miss : get_or marks (label_of p) false ≡ false → any_marked ps marks ≡ any_marked qs marks
  unfolding any_marked
  any_miss is = rw (here, is)

pub any_none : {ps : List Price} → ps ≡ [] → (marks : List Bool) → any_marked ps marks ≡ false
unfolding any_marked
any_none none marks = rw none

-- what they say of the card
module _ (live : List Bool) (pages : ℕ) (m : List ℕ) (c : ℕ) (marks : List Bool) (other : ℕ) where
  pub marks_other : is_other live (area_size pages) m c other ≡ true
      → marks_with live pages m c marks other ≡ any_marked (open_prices pages m other) marks
  unfolding marks_with
  marks_other is = rw is

  pub marks_not : is_other live (area_size pages) m c other ≡ false → marks_with live pages m c marks other ≡ false
  unfolding marks_with
  marks_not is = rw is
