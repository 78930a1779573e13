-- Rests on `CountedBelow`: the counts are those of the pages below this one, and no more than those pages.
use Rattle.std.proofs.Common.{get_or, arith}
use Rattle.directory.proofs.PageCounts.{counted_below_none, counted_below_few}
use Rattle.directory.proofs.homes.count_homes.Goals as goal

pub loop-page-init : goal.loop-page-init
loop-page-init c = counted_below_none

pub count_page-requires : goal.count_page-requires
count_page-requires c =
    let a = c.args in
    let page = c.loop-page.page in
    let first = counted_below_few c.loop-page.invariant (get_or a.primary.now page 0) in
    let second = counted_below_few c.loop-page.invariant (get_or a.secondary.now page 0) in
    omega arith
