-- Rests on `homes_at`.
use Rattle.bandsawpink.specs.Words.{directory_in}
use Rattle.bandsawpink.proofs.words.primary_in.Goals as goal

pub returns : goal.returns
unfolding directory_in
returns c = c.homes_at.ensures
