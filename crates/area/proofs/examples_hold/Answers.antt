-- `area::examples_hold` meets its contract: each example is computed, `examples_hold` of proofs/Examples.antt.
use Rattle.area.proofs.Examples.{examples_hold}
use Rattle.area.proofs.examples_hold.Goals as goal

pub returns : goal.returns
returns c = examples_hold
