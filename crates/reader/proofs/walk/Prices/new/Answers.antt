-- `Prices::new` meets its contract: before the first word all prices are left.
use Rattle.reader.specs.Left.{left}
use Rattle.reader.proofs.Walking.{left_first}
use Rattle.reader.proofs.walk.Prices.new.Goals as goal

pub returns : goal.returns
unfolding left
returns c = rw (c.first_word.ensures, left_first)
