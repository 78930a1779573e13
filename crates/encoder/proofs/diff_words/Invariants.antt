-- `encoder::diff_words` meets its contract. The loop's invariant: with the words of the pages from the next one on, the
-- count is that of all pages and the end word.
use Rattle.std.specs.Prelude.{ℕ, ◌+◌, ◌*◌, ◌≤◌, ◌≡◌, List, length}
use Rattle.encoder.proofs.Pages.{body_on}
use Rattle.encoder.proofs.diff_words.Given as goal

abbrev pub invariant-loop-page_marks : goal.invariant-loop-page_marks
invariant-loop-page_marks l = (l.words ≤ 65 * l.page_marks-index + 1)
    × ((prices : List ℕ) → l.words + length (body_on prices l.marks l.page_marks-index)
    ≡ length (body_on prices l.marks 0) + 1)
