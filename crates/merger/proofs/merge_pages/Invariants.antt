-- `merger::merge_pages` meets its contract. The loop's invariant: what the pages before one bring stands in the list, and
-- the rest of both diffs is ahead. The lower of the next words rises with each page.
use Rattle.std.specs.Prelude.{◌-◌, get_or, min}
use Rattle.merger.proofs.Merging.{Merging}
use Rattle.merger.proofs.merge_pages.Given as goal

abbrev pub invariant-loop-page : goal.invariant-loop-page
invariant-loop-page l = Merging l.first l.second l.initial.list l.i l.j l.at l.list

abbrev pub decreases-loop-page : goal.decreases-loop-page
decreases-loop-page l = 0xF0000000 - min (get_or l.first l.i 0) (get_or l.second l.j 0)
