-- Rests on the answer in numbers.
use Rattle.bandsawpink.proofs.answers.with_shown.Goals as goal

pub returns : goal.returns
returns c = rw c.in_numbers-numbers.ensures
