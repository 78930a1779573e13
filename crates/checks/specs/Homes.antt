-- Inner contracts only. The homes of a page as far as their numbers tell whether they are bad.
use Rattle.std.specs.Prelude.{ℕ, List, Bool, ◌||◌, get_or, leb, eqb}

-- they are the same, or one of them is not below the number of cards
unfoldable pub misplaced : ℕ → ℕ → ℕ → Bool
misplaced cards first second = eqb first second || (leb cards first || leb cards second)

abbrev pub misplaced_page : ℕ → List ℕ → List ℕ → ℕ → Bool
misplaced_page cards primary secondary p = misplaced cards (get_or primary p 0) (get_or secondary p 0)
