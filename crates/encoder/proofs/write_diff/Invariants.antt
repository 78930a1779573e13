-- `encoder::write_diff` meets its contract. The loop's invariant: the words of the pages from `page` on, stored from here
-- on, give the list with the words of all pages; while some of them are left, there is a page.
use Rattle.std.specs.Prelude.{◌+◌, ◌-◌, ◌<◌, ◌≡◌, length}
use Rattle.std.proofs.lemmas.List.Edits.{sets}
use Rattle.encoder.proofs.Pages.{body_on}
use Rattle.encoder.proofs.write_diff.Given as goal

abbrev pub invariant-loop-at : goal.invariant-loop-at
invariant-loop-at l = (l.at < l.end → l.page < length l.marks)
    × ((l.at + length (body_on l.prices l.marks l.page) ≡ l.end)
    × (sets l.list l.at (body_on l.prices l.marks l.page) ≡ sets l.initial.list 0 (body_on l.prices l.marks 0)))

abbrev pub decreases-loop-at : goal.decreases-loop-at
decreases-loop-at l = length l.marks - l.page
