-- `diff::examples_hold` meets its contract: each example is computed, in proofs/Examples.antt and MergeExamples.antt.
use Rattle.diff.proofs.Examples.{examples_hold}
use Rattle.diff.proofs.MergeExamples.{merge_examples_hold}
use Rattle.diff.proofs.examples_hold.Goals as goal

pub returns : goal.returns
returns c = record { lists = examples_hold; merges = merge_examples_hold }
