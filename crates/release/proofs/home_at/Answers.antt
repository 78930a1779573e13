-- Rests on the test: even numbers go to the secondary, odd ones to the primary.
use borrow.Author.Tests.{eq-eqb, ne_eqb}
use Rattle.release.proofs.home_at.Goals as goal

pub returns-then-at-eq0 : goal.returns-then-at-eq0
returns-then-at-eq0 c = simp (eq-eqb _ _ c.if-at-eq0.true)

pub returns-else-at-eq0 : goal.returns-else-at-eq0
returns-else-at-eq0 c = simp (ne_eqb _ _ c.if-at-eq0.false)
