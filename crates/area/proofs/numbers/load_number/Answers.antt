-- Rests on what `load_word` ensures, of both words.
use Rattle.area.specs.Numbers.{number_at}
use Rattle.area.proofs.numbers.load_number.Goals as goal

pub returns : goal.returns
unfolding number_at
returns c = rw (c.load_word-low.ensures, c.load_word-high.ensures)
