-- The directory: a value handed in and handed back (document 01, "Cards, pages, memory").
-- Assumes nothing: these are definitions.
use Rattle.std.specs.Prelude.{ℕ, zero, suc, ◌%◌, ◌≡◌, List, [], ◌∷◌, Bool, true, false, cond, length, get_or, set}
use Rattle.std.specs.Prelude.{replicate, ltb, eqb}
pub use Rattle.directory.specs.Live.{live_at}
unfoldable pub use Rattle.directory.specs.Live.{next_live}
pub use Rattle.directory.specs.declared.Directory.{Directory}
pub use Rattle.directory.specs.declared.Header.{Header}
pub use Rattle.directory.specs.declared.Status.{Status}
use Rattle.directory.specs.declared.Status.TheVariants.{Running, Awaiting}

-- a directory by its parts
abbrev pub directory_of : ℕ → ℕ → List Bool → List ℕ → List ℕ → Status → Directory
directory_of cards pages live primary secondary status =
    record {
      cards = cards;
      pages = pages;
      live = live;
      primary = primary;
      secondary = secondary;
      status = status;
    }

-- all but its homes
abbrev pub header_of : Directory → Header
header_of d = record { cards = d.cards; pages = d.pages; live = d.live; status = d.status }

-- a directory by its header and its homes
abbrev pub directory_by : Header → List ℕ → List ℕ → Directory
directory_by h primary secondary = directory_of h.cards h.pages h.live primary secondary h.status

-- homes lent beside a header: one for each page that a directory has room for
abbrev pub FullHomes : List ℕ → List ℕ → Type 0
FullHomes primary secondary = (length primary ≡ 64) × (length secondary ≡ 64)

-- ---- what it says

abbrev pub is_live : Directory → ℕ → Bool
is_live d c = live_at d.live c

abbrev pub primary_of : Directory → ℕ → ℕ
primary_of d page = get_or d.primary page 0

abbrev pub secondary_of : Directory → ℕ → ℕ
secondary_of d page = get_or d.secondary page 0

-- whether recovery of card c is awaited
abbrev pub awaits_card : Status → ℕ → Bool
awaits_card Running c = false
awaits_card (Awaiting f) c = eqb f c

abbrev pub next_live_of : Directory → ℕ → ℕ
next_live_of d c = next_live d.live d.cards c

-- "A card's backup is the next live after it."
abbrev pub backup_of : Directory → ℕ → ℕ
backup_of d c = next_live_of d c

-- ---- what changes it

abbrev pub with_mark : Directory → ℕ → Bool → Directory
with_mark d c mark =
    record {
      cards = d.cards;
      pages = d.pages;
      live = set d.live c mark;
      primary = d.primary;
      secondary = d.secondary;
      status = d.status;
    }

abbrev pub marked_dead : Directory → ℕ → Directory
marked_dead d c = with_mark d c false

abbrev pub marked_live : Directory → ℕ → Directory
marked_live d c = with_mark d c true

abbrev pub with_homes : Directory → ℕ → ℕ → ℕ → Directory
with_homes d page primary secondary =
    record {
      cards = d.cards;
      pages = d.pages;
      live = d.live;
      primary = set d.primary page primary;
      secondary = set d.secondary page secondary;
      status = d.status;
    }

abbrev pub with_status : Directory → Status → Directory
with_status d status =
    record {
      cards = d.cards;
      pages = d.pages;
      live = d.live;
      primary = d.primary;
      secondary = d.secondary;
      status = status;
    }

-- ---- where it comes from

-- f 0, f 1, .. , f (n - 1), as f i, .. from i on
unfoldable pub table_from : {A : Type 0} → (ℕ → A) → ℕ → ℕ → List A
table_from f i zero = []
table_from f i (suc n) = f i ∷ table_from f (suc i) n

abbrev pub table : {A : Type 0} → (ℕ → A) → ℕ → List A
table f n = table_from f 0 n

-- formatting makes all cards live, and marks past them dead
abbrev pub formatted_marks : ℕ → List Bool
formatted_marks cards = table (λ c. ltb c cards) 8

-- "Formatting .. gives page p primary p mod cards. The secondary is the next live after the primary."
-- Homes past the pages are 0.
abbrev pub formatted_primary : ℕ → ℕ → ℕ → ℕ
formatted_primary cards pages p = cond (ltb p pages) (p % cards) 0

abbrev pub formatted_secondary : ℕ → ℕ → ℕ → ℕ
formatted_secondary cards pages p = cond (ltb p pages) (next_live (formatted_marks cards) cards (p % cards)) 0

unfoldable pub formatted_directory : ℕ → ℕ → Directory
formatted_directory cards pages =
    record {
      cards = cards;
      pages = pages;
      live = formatted_marks cards;
      primary = table (formatted_primary cards pages) 64;
      secondary = table (formatted_secondary cards pages) 64;
      status = Running;
    }

-- "Refused formatting gives one that is running, with 0 cards, 0 pages, all dead, homes 0."
unfoldable pub empty_directory : Directory
empty_directory =
    record {
      cards = 0;
      pages = 0;
      live = replicate 8 false;
      primary = replicate 64 0;
      secondary = replicate 64 0;
      status = Running;
    }
