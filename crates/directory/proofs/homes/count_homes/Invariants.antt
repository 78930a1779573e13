-- Rests on `CountedBelow`: the counts are those of the pages below this one.
use Rattle.directory.proofs.PageCounts.{CountedBelow}
use Rattle.directory.proofs.homes.count_homes.Given as goal

abbrev pub invariant-loop-page : goal.invariant-loop-page
invariant-loop-page l = CountedBelow l.primary l.secondary l.pages l.page l.counts
