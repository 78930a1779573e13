-- What the list maker makes: demand 2 on diffs, as document 02, request 2, makes it, and as the demand has it where the
-- marks are those of what differs.
use Rattle.std.specs.Prelude.{ℕ, ◌+◌, ◌*◌, ◌^◌, ◌<◌, ◌≤◌, ◌≡◌, ◌≢◌, List, [], ◌∷◌, ◌++◌, true, cond, length, get_or}
use Rattle.std.specs.Prelude.{drop, eqb}
use Rattle.std.specs.Int.Count.{ones}
use Rattle.answer.specs.Outcome.{given}
use Rattle.diff.specs.Prices.{Price, prices_of, names, apply_prices}
use Rattle.diff.specs.Encoding.{price_at, encode}
use Rattle.diff.specs.Marks.{is_marked, change_marks}
use Rattle.diff.specs.Making.{price_on, made_diff, make_diff, buffer_after, mark_changes, marks_after}
use Rattle.diff.specs.OnlyDiff.{Allowed, Names, DiffOf}

-- the pages `twins`, with the diff's prices, are the pages `working`
abbrev pub Turns : ℕ → List ℕ → List ℕ → List ℕ → Type 0
Turns pages diff twins working = apply_prices (prices_of pages diff) twins ≡ working

-- the label's price is not its twin
abbrev pub Differs : List ℕ → List ℕ → ℕ → Type 0
Differs working twins label = get_or working label 0 ≢ get_or twins label 0

-- every word that differs is marked
abbrev pub AllMarked : List ℕ → List ℕ → List ℕ → Type 0
AllMarked working twins marks = (label : ℕ) → Differs working twins label → is_marked marks label ≡ true

-- so many pages, 1 to 64, with their twins and one word of marks for each
pub record Lent (pages : ℕ) (working twins marks : List ℕ) : Type 0 where
  pub some : 1 ≤ pages
  pub few : pages ≤ 64
  pub priced : length working ≡ 32 * pages
  pub twinned : length twins ≡ 32 * pages
  pub marked : length marks ≡ pages

-- how many of the prices are on a page
unfoldable pub prices_on : ℕ → List Price → ℕ
prices_on page [] = 0
prices_on page (p ∷ ps) = cond (eqb p.page page) 1 0 + prices_on page ps

-- ---- with any marks

-- The made diff, on a rack that has the lent pages.
pub record MadeOfMarks (pages : ℕ) (working twins marks : List ℕ) : Type 0 where
  -- "One mark word per page, or 1."
  pub lent : Lent (length marks) working twins marks
  pub allowed : Allowed pages (made_diff working marks)
  -- "It names exactly the marked words"
  pub names_marked : (label : ℕ) → names (prices_of pages (made_diff working marks)) label ≡ is_marked marks label
  -- "Laid on the twins it sets exactly the marked words, to the working prices"
  pub sets_marked :
      (label : ℕ) → get_or (apply_prices (prices_of pages (made_diff working marks)) twins) label 0
      ≡ cond (is_marked marks label) (get_or working label 0) (get_or twins label 0)
  pub keeps_length : length (apply_prices (prices_of pages (made_diff working marks)) twins) ≡ length twins
  -- "demand 2's first state becomes the second where every differing word is marked"
  pub turns : AllMarked working twins marks → Turns pages (made_diff working marks) twins working
  -- "the number of prices on a page is the number of ones in its marks"
  pub counts :
      (page : ℕ) → get_or marks page 0 < 2 ^ 32
      → prices_on page (prices_of pages (made_diff working marks)) ≡ ones (get_or marks page 0)
  -- "uniqueness is now for given marks and prices"
  pub only :
      (diff : List ℕ) → Allowed pages diff → DiffOf pages (is_marked marks) (price_on working) diff
      → diff ≡ made_diff working marks

-- The made diff is such a one whenever the list maker accepts.
abbrev pub MadeOfMarksOnly : Type 0
MadeOfMarksOnly =
    (pages room : ℕ) (working twins marks : List ℕ) → length working ≤ 32 * pages → pages ≤ 64
    → (make_diff working twins marks room).number ≡ 0 → MadeOfMarks pages working twins marks

-- It accepts whatever is lent so, if there is an allowed diff of the marked words and the buffer has room for it: then
-- the answer is its length, and it stands in the buffer.
abbrev pub MakesAllowedDiff : Type 0
MakesAllowedDiff =
    (pages : ℕ) (working twins marks buffer diff : List ℕ) → Lent pages working twins marks → Allowed pages diff
    → DiffOf pages (is_marked marks) (price_on working) diff → length diff ≤ length buffer
    → (make_diff working twins marks (length buffer) ≡ given (length diff))
    × (buffer_after working twins marks buffer ≡ diff ++ drop (length diff) buffer)

-- ---- with the marks of what differs

-- the working prices that differ from their twins, from a label on: what document 01's list maker names
unfoldable pub differences_from : ℕ → List ℕ → List ℕ → List Price
differences_from label [] twins = []
differences_from label (w ∷ ws) [] = []
differences_from label (w ∷ ws) (t ∷ ts) =
    cond (eqb w t) [] (price_at label w ∷ []) ++ differences_from (label + 1) ws ts

pub record ChangesMarked (working twins : List ℕ) : Type 0 where
  pub one_per_page : 32 * length (change_marks working twins) ≡ length working
  pub words : (page : ℕ) → get_or (change_marks working twins) page 0 < 2 ^ 32
  pub marks_what_differs : AllMarked working twins (change_marks working twins)
  pub marks_no_other :
      (label : ℕ) → is_marked (change_marks working twins) label ≡ true → Differs working twins label
  -- the list made with them is document 01's, which "names exactly the words that differ"
  pub same_diff : made_diff working (change_marks working twins) ≡ encode (differences_from 0 working twins)

-- They are such marks whenever marking the changes is accepted.
abbrev pub MarksAreChanges : Type 0
MarksAreChanges =
    (working twins marks : List ℕ) → (mark_changes (length working) (length twins) (length marks)).number ≡ 0
    → Lent (length marks) working twins marks × ChangesMarked working twins

-- It is accepted whatever is lent so: then the answer is 0, and they stand in the buffer.
abbrev pub StoresChanges : Type 0
StoresChanges =
    (pages : ℕ) (working twins marks : List ℕ) → Lent pages working twins marks
    → (mark_changes (length working) (length twins) (length marks) ≡ given 0)
    × (marks_after working twins marks ≡ change_marks working twins)

-- Demand 2: "The list made from two states of the pages turns the first into the second, and it is the only list that
-- document 01 allows for those changes and that names no other word."
pub record MadeIsOnly (pages : ℕ) (working twins diff : List ℕ) : Type 0 where
  pub allowed : Allowed pages diff
  pub turns : Turns pages diff twins working
  pub names_what_differs : (label : ℕ) → Differs working twins label → Names pages diff label
  pub names_no_other : (label : ℕ) → Names pages diff label → Differs working twins label
  pub only :
      (other : List ℕ) → Allowed pages other → Turns pages other twins working
      → ((label : ℕ) → Names pages other label → Differs working twins label) → other ≡ diff

-- Whenever the list maker accepts the marks of what differs.
abbrev pub MadeIsOnlyDiff : Type 0
MadeIsOnlyDiff =
    (pages room : ℕ) (working twins : List ℕ) → length working ≤ 32 * pages → pages ≤ 64
    → (make_diff working twins (change_marks working twins) room).number ≡ 0
    → MadeIsOnly pages working twins (made_diff working (change_marks working twins))
