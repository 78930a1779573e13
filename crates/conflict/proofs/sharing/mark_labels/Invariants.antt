-- The loop's invariant: the labels of the prices so far are marked.
use mathlib.Core.Path.{◌≡◌}
use Rattle.diff.specs.Prices.{label_of}
use Rattle.conflict.specs.Marks.{marked}
use Rattle.conflict.proofs.sharing.mark_labels.Given as goal

abbrev pub invariant-loop-price : goal.invariant-loop-price
invariant-loop-price l = l.marks ≡ marked label_of l.yielded l.fn.marks
