-- Both homes of a page are cards, also of a memory of the same length.
use Rattle.std.specs.Prelude.{ℕ, ◌<◌, ◌≡◌, List, Bool, get_or}
use Rattle.area.specs.Prelude.{area_size}
use Rattle.release.specs.Stepping.{CardIn, HomesIn}
use Rattle.release.proofs.Callers.{card_kept}

module _ {live : List Bool} {pages words words' page : ℕ} {primary secondary : List ℕ} where
  pub primary_card : HomesIn live pages primary secondary words → page < pages → words' ≡ words
      → CardIn live words' (area_size pages) (get_or primary page 0)
  primary_card homes below same = card_kept (homes.primary_in page below) same

  pub secondary_card : HomesIn live pages primary secondary words → page < pages → words' ≡ words
      → CardIn live words' (area_size pages) (get_or secondary page 0)
  secondary_card homes below same = card_kept (homes.secondary_in page below) same
