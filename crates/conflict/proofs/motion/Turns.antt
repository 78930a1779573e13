-- The prices of an open list: what one more adds, and what they say of the card.
use Rattle.std.specs.Prelude.{ℕ, ◌≡◌, List, [], ◌∷◌, ◌++◌, Bool, true, false, cond, ◌||◌}
use Rattle.std.specs.Prelude.{eqb}
use Rattle.laws.proofs.Prelude.{refl}
use Rattle.diff.specs.declared.Price.{Price}
use Rattle.protocol.specs.Fetch.{names_page}

-- one price more
pub page_next : (ps : List Price) (p : Price) (page : ℕ)
    → names_page (ps ++ p ∷ []) page ≡ (names_page ps page || eqb p.page page)
unfolding names_page
page_next [] p page = go (eqb p.page page)
  where
    go : (here : Bool) → cond here true false ≡ here
    go true = refl
    go false = refl
page_next (q ∷ ps) p page = go (eqb q.page page) (page_next ps p page)
  where
    go : (here : Bool) → names_page (ps ++ p ∷ []) page ≡ (names_page ps page || eqb p.page page)
        → cond here true (names_page (ps ++ p ∷ []) page) ≡ (cond here true (names_page ps page) || eqb p.page page)
    go true rest = refl
    go false rest = rest
