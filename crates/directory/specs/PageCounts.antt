-- Inner contracts only. Counts of pages, one for each card, kept while homes are given out: what the functions of the
-- module `homes` do with them.
use Rattle.std.specs.Prelude.{ℕ, ◌+◌, ◌<◌, ◌≤◌, ◌≡◌, List, Bool, true, cond, ◌&&◌, length, get_or, set, ltb, eqb}
use Rattle.std.specs.Prelude.{Option, None, Some}
use Rattle.directory.specs.Directory.{Directory, is_live}
use Rattle.directory.specs.NewHome.{pages_at, may_take}

-- the count of card c
abbrev pub count_at : List ℕ → ℕ → ℕ
count_at counts c = get_or counts c 0

-- one page more for it
abbrev pub one_added : List ℕ → ℕ → List ℕ
one_added counts c = set counts c (count_at counts c + 1)

-- one page more for each of a page's homes
abbrev pub page_more : List ℕ → ℕ → ℕ → List ℕ
page_more counts primary secondary =
    cond (eqb secondary primary) (one_added counts primary) (one_added (one_added counts primary) secondary)

-- homes of so many pages, and no more than a directory has room for
pub record PagesWithin (pages : ℕ) (primary secondary : List ℕ) : Type 0 where
  pub few : pages ≤ 64
  pub primaries : pages ≤ length primary
  pub secondaries : pages ≤ length secondary

-- the counts of the live cards are right
pub record CountsRight (d : Directory) (counts : List ℕ) : Type 0 where
  pub right : (c : ℕ) → c < d.cards → is_live d c ≡ true → count_at counts c ≡ pages_at d c

-- whether card c is home to fewer pages than the card found so far, if there is one
abbrev pub has_fewer : (ℕ → ℕ) → Option ℕ → ℕ → Bool
has_fewer count None c = true
has_fewer count (Some found) c = ltb (count c) (count found)

-- whether it takes that card's place
abbrev pub takes_over : List Bool → (ℕ → ℕ) → ℕ → Option ℕ → ℕ → Bool
takes_over marks count kept found c = may_take marks kept c && has_fewer count found c
