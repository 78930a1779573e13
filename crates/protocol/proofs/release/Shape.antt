-- A rack within its limits: each live card's area lies in the memory.
use Rattle.std.specs.Prelude.{ℕ, ◌*◌, ◌≤◌, ◌<◌, ◌≡◌, List, true, length}
use Rattle.laws.proofs.Prelude.{◌∙◌}
use Rattle.directory.specs.declared.Directory.{Directory}
use Rattle.directory.specs.Directory.{is_live}
use Rattle.area.specs.Prelude.{AreaIn}
use Rattle.area.proofs.Prelude.{area_in}
use Rattle.protocol.specs.Release.{size_of}

-- a rack within its limits
pub record Shape (d : Directory) (m : List ℕ) : Type 0 where
  pub few_cards : d.cards ≤ 8
  pub few_pages : d.pages ≤ 64
  pub whole : length m ≡ d.cards * size_of d
  pub below : (c : ℕ) → is_live d c ≡ true → c < d.cards

module _ {d : Directory} {m : List ℕ} (shape : Shape d m) where
  pub area_of : (c : ℕ) → c < d.cards → AreaIn (length m) (size_of d) c
  area_of c below = area_in (size_of d) below shape.whole

  pub area_of_live : (c : ℕ) → is_live d c ≡ true → AreaIn (length m) (size_of d) c
  area_of_live c live = area_of c (shape.below c live)

  pub shape_kept : (m' : List ℕ) → length m' ≡ length m → Shape d m'
  shape_kept m' same =
      record {
        few_cards = shape.few_cards;
        few_pages = shape.few_pages;
        whole = same ∙ shape.whole;
        below = shape.below;
      }
