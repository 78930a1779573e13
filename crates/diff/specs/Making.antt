-- The list maker (document 01, "The list of changes", as document 02, request 2, makes it): it "names exactly the marked
-- words", at the working prices; and the call that marks what differs, for a desk that keeps no marks.
-- Assumes nothing: these are definitions.
use Rattle.std.specs.Prelude.{ℕ, ◌*◌, ◌%◌, List, Bool, cond, ◌&&◌, length, get_or, leb, eqb}
use Rattle.answer.specs.declared.Outcome.{Outcome}
use Rattle.answer.specs.Outcome.{given, refused, limits, wrong_buffer}
use Rattle.diff.specs.Encoding.{listed_diff}
use Rattle.diff.specs.Marks.{is_marked, change_marks}
use Rattle.diff.specs.Room.{room_for, written_by}

-- a label's price on the working pages
abbrev pub price_on : List ℕ → ℕ → ℕ
price_on working label = get_or working label 0

-- the diff of the marked words
unfoldable pub made_diff : List ℕ → List ℕ → List ℕ
made_diff working marks = listed_diff (is_marked marks) (price_on working) (length working)

-- ---- what is refused

-- refusal 1 in list work: "lent pages of unequal length or not 32 words times 1 to 64"
unfoldable pub lent_pages : ℕ → ℕ → Bool
lent_pages working twins = eqb working twins && (eqb (working % 32) 0 && (leb 1 working && leb working 2048))

-- "One mark word per page, or 1."
unfoldable pub lent_marked : ℕ → ℕ → ℕ → Bool
lent_marked working twins marks = lent_pages working twins && eqb (32 * marks) working

-- ---- the calls

-- What making a diff comes to, in a buffer of so many words: 17 also for "a list over 512 words". The twins' words are not
-- looked at, only their number.
unfoldable pub make_diff : List ℕ → List ℕ → List ℕ → ℕ → Outcome
make_diff working twins marks room =
    cond (lent_marked (length working) (length twins) (length marks))
    (room_for wrong_buffer (length (made_diff working marks)) room) (refused limits)

-- the buffer after it
abbrev pub buffer_after : List ℕ → List ℕ → List ℕ → List ℕ → List ℕ
buffer_after working twins marks buffer =
    written_by (make_diff working twins marks (length buffer)) (made_diff working marks) buffer

-- what marking the changes comes to, by the lengths of what is lent
unfoldable pub mark_changes : ℕ → ℕ → ℕ → Outcome
mark_changes working twins marks = cond (lent_marked working twins marks) (given 0) (refused limits)

-- the marks after it; a refusal changes none
abbrev pub marks_after : List ℕ → List ℕ → List ℕ → List ℕ
marks_after working twins marks =
    cond (eqb (mark_changes (length working) (length twins) (length marks)).number 0) (change_marks working twins) marks
