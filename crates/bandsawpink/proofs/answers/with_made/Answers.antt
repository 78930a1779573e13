-- Rests on the answer in numbers.
use Rattle.bandsawpink.proofs.answers.with_made.Goals as goal

pub returns : goal.returns
returns c = rw c.in_numbers-numbers.ensures
