-- `changes::changed_words` meets its contract. The loop's invariant: the marks are those of the words before `word`.
use Rattle.std.proofs.Common.{arith, rules}
use Rattle.diff.specs.Marks.{changed_words}
use Rattle.encoder.proofs.Changed.{changed_same, changed_differs, changed_fits, word_bit}
use Rattle.encoder.proofs.changes.changed_words.Goals as goal

pub loop-word-init : goal.loop-word-init
unfolding changed_words
loop-word-init c = search rules

pub overflow_add-marks : goal.overflow_add-marks
overflow_add-marks c = grind (arith, word_bit, changed_fits)

pub loop-word-preserved : goal.loop-word-preserved
loop-word-preserved c = grind (arith, word_bit, changed_same, changed_differs)
