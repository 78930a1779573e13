-- Two diffs made one (document 02, request 9, "Two lists made one"): the diff of what either names, at the second's price
-- where the second names it. Document 02 joins lists; here they are merged, since it is cards that join.
-- Assumes nothing: these are definitions.
use Rattle.std.specs.Prelude.{ℕ, ◌*◌, List, Bool, cond, ◌||◌, length}
use Rattle.answer.specs.declared.Outcome.{Outcome}
use Rattle.answer.specs.Outcome.{and_then, list_too_long}
use Rattle.diff.specs.Reading.{check_diff}
use Rattle.diff.specs.Prices.{Price, prices_of, names, applied_at}
use Rattle.diff.specs.Encoding.{listed_diff}
use Rattle.diff.specs.Room.{room_for, written_by}

-- "pages to 63", whatever a rack has
abbrev pub merge_pages : ℕ
merge_pages = 64

-- the labels that one of two lists of prices names, or both
abbrev pub either_names : List Price → List Price → ℕ → Bool
either_names first second label = names first label || names second label

-- "the first's and then the second's": a label's price is the second's where the second names it, else the first's
abbrev pub last_price : List Price → List Price → ℕ → ℕ
last_price first second label = cond (names second label) (applied_at second label 0) (applied_at first label 0)

-- the diff of these labels at these prices
unfoldable pub merged_diff : List ℕ → List ℕ → List ℕ
merged_diff first second =
    let p : List Price = prices_of merge_pages first in
    let q : List Price = prices_of merge_pages second in
    listed_diff (either_names p q) (last_price p q) (32 * merge_pages)

-- What merging two diffs comes to, in a buffer of so many words. "A faulty input gets 7, the first list looked at first, a
-- result over 512 words 19, then a short buffer 17."
unfoldable pub merge_diffs : List ℕ → List ℕ → ℕ → Outcome
merge_diffs first second room =
    and_then (check_diff merge_pages first)
    (and_then (check_diff merge_pages second) (room_for list_too_long (length (merged_diff first second)) room))

-- the buffer after it
abbrev pub merged_buffer : List ℕ → List ℕ → List ℕ → List ℕ
merged_buffer first second buffer =
    written_by (merge_diffs first second (length buffer)) (merged_diff first second) buffer
