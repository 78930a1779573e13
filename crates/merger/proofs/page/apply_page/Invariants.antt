-- `page::apply_page` meets its contract. The loop's invariant: the runs before an index are applied to the page, and those
-- that are left stand from there on.
use Rattle.std.specs.Prelude.{ℕ, ◌-◌, List, length}
use Rattle.merger.specs.Page.{PageAt}
use Rattle.merger.proofs.page.Applying.{RunsApplied, RunAt}
use Rattle.merger.proofs.page.apply_page.Given as goal

abbrev pub invariant-loop-at : goal.invariant-loop-at
invariant-loop-at l = RunAt l.list l.at l.prices
    × ((own : ℕ) (priced : List ℕ) (there : PageAt l.list l.index l.page own priced)
    → RunsApplied there l.marks l.initial.prices l.marked l.prices l.at)

abbrev pub decreases-loop-at : goal.decreases-loop-at
decreases-loop-at l = length l.list - l.at
