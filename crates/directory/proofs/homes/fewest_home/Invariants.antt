-- Rests on `FewestSoFar`: the card found is the lowest of the fewest among the cards passed.
use Rattle.directory.specs.PageCounts.{count_at}
use Rattle.directory.proofs.PageCounts.{FewestSoFar}
use Rattle.directory.proofs.homes.fewest_home.Given as goal

abbrev pub invariant-loop-card : goal.invariant-loop-card
invariant-loop-card l = FewestSoFar l.live (count_at l.counts) l.kept l.card l.found
