-- `commands::examples_hold` meets its contract: each example is computed, `examples_hold` of proofs/Examples.antt.
use Rattle.commands.proofs.Examples.{examples_hold}
use Rattle.commands.proofs.examples_hold.Goals as goal

pub returns : goal.returns
returns c = examples_hold
