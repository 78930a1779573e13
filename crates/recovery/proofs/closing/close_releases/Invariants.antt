-- Rests on `Closed`: the releases of the cards passed are closed, those of the others stand as they did.
use Rattle.recovery.proofs.closing.Releases.{Closed}
use Rattle.recovery.proofs.closing.close_releases.Given as goal

abbrev pub invariant-loop-card : goal.invariant-loop-card
invariant-loop-card l = Closed l.directory l.failed l.initial.memory l.card l.memory
