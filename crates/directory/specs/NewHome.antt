-- The card that becomes home to a page that lost one (document 02, request 4), and the card that did before.
-- Assumes nothing: these are definitions.
use Rattle.std.specs.Prelude.{ℕ, ◌<◌, ◌≤◌, ◌≡◌, ◌≢◌, List, Bool, true, not, ◌&&◌, ◌||◌, get_or, ltb, eqb}
use Rattle.laws.specs.Search.{lowest, any_below, count_below}
use Rattle.directory.specs.Directory.{Directory, live_at, is_live, next_live_of}

-- A rule names the new home. It is told the directory as it stands at that moment, and the home that the page keeps,
-- which is its primary from then on.
abbrev pub HomeRule : Type 0
HomeRule = Directory → ℕ → ℕ

-- ---- "the live card, other than the primary, that is home to the fewest pages at that moment, lowest number on a tie"

-- by the pages' homes: card c is home to a page, its primary or its secondary
abbrev pub is_home_in : List ℕ → List ℕ → ℕ → ℕ → Bool
is_home_in primary secondary c page = eqb (get_or primary page 0) c || eqb (get_or secondary page 0) c

-- the number of pages that it is home to
abbrev pub pages_in : List ℕ → List ℕ → ℕ → ℕ → ℕ
pages_in primary secondary pages c = count_below (is_home_in primary secondary c) pages

unfoldable pub pages_at : Directory → ℕ → ℕ
pages_at d c = pages_in d.primary d.secondary d.pages c

-- by the marks: a live card, other than the primary
abbrev pub may_take : List Bool → ℕ → ℕ → Bool
may_take marks kept c = live_at marks c && not (eqb c kept)

-- such a card that is home to fewer pages than n; `count` is the number of each card's pages
abbrev pub is_fewer : List Bool → (ℕ → ℕ) → ℕ → ℕ → ℕ → Bool
is_fewer marks count kept n c = may_take marks kept c && ltb (count c) n

-- one of those that are home to the fewest
unfoldable pub is_fewest : List Bool → ℕ → (ℕ → ℕ) → ℕ → ℕ → Bool
is_fewest marks cards count kept c =
    may_take marks kept c && not (any_below (is_fewer marks count kept (count c)) cards)

-- the lowest of them; `cards` if there is none
abbrev pub fewest_home : List Bool → ℕ → (ℕ → ℕ) → ℕ → ℕ
fewest_home marks cards count kept = lowest (is_fewest marks cards count kept) cards

unfoldable pub even_home : HomeRule
even_home d kept = fewest_home d.live d.cards (pages_at d) kept

-- ---- document 01: "the next live after its primary"

abbrev pub next_home : HomeRule
next_home d kept = next_live_of d kept

-- ---- what is claimed of them

-- a live card other than a given one
pub record Another (d : Directory) (c : ℕ) : Type 0 where
  pub card : ℕ
  pub below : card < d.cards
  pub live : is_live d card ≡ true
  pub differs : card ≢ c

-- A rule that names a live card other than the kept home, where there is one.
pub record NamesLive (rule : HomeRule) : Type 0 where
  pub live : (d : Directory) (kept : ℕ) → Another d kept → is_live d (rule d kept) ≡ true
  pub differs : (d : Directory) (kept : ℕ) → Another d kept → rule d kept ≢ kept

-- What is claimed of the named card: the rack has it, it is live, and it is not the kept home; no live card but the
-- kept home is home to fewer pages, and none of lower number to as few.
pub record Fewest (d : Directory) (kept named : ℕ) : Type 0 where
  pub below : named < d.cards
  pub live : is_live d named ≡ true
  pub differs : named ≢ kept
  pub fewest : (c : ℕ) → c < d.cards → is_live d c ≡ true → c ≢ kept → pages_at d named ≤ pages_at d c
  pub lowest_such : (c : ℕ) → c < named → is_live d c ≡ true → c ≢ kept → pages_at d named < pages_at d c

abbrev pub EvenlyShared : Type 0
EvenlyShared = (d : Directory) (kept : ℕ) → Another d kept → Fewest d kept (even_home d kept)
