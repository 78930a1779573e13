-- Rests on the answer's outcome.
use Rattle.bandsawpink.proofs.answers.in_numbers.Goals as goal

pub returns : goal.returns
returns c = rw c.outcome_of-o.ensures
