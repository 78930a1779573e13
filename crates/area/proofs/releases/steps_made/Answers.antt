-- Rests on what `load_word` ensures.
use Rattle.area.specs.Releases.{steps_of}
use Rattle.area.proofs.releases.steps_made.Goals as goal

pub returns : goal.returns
unfolding steps_of
returns c = c.load_word.ensures
