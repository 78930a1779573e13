-- Rests on `Moves`: the pages passed that lost a home have their copies at the new one, and their new homes, and the
-- counts are right.
use Rattle.recovery.proofs.homes.Moves.{Moves}
use Rattle.recovery.proofs.homes.move_homes.Given as goal

abbrev pub invariant-loop-page : goal.invariant-loop-page
invariant-loop-page l = Moves l.directory l.failed l.initial.memory l.page l.memory l.counts l.moved
