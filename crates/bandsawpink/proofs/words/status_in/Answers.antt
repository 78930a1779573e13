-- Rests on its test.
use borrow.Author.Tests.{eq-eqb, ne_eqb}
use Rattle.bandsawpink.proofs.words.status_in.Goals as goal

pub returns-then-awaited-eq-RUNNING : goal.returns-then-awaited-eq-RUNNING
returns-then-awaited-eq-RUNNING c = simp (eq-eqb _ _ c.if-awaited-eq-RUNNING.true)

pub returns : goal.returns
returns c = simp (ne_eqb _ _ c.if-awaited-eq-RUNNING.false)
