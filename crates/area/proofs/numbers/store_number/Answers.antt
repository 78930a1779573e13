-- Rests on `store_run_cons` and `store_run_one`: a number is a run of two words.
use mathlib.Core.Path.{◌∙◌, sym}
use Rattle.memory.proofs.Runs.{store_run_cons, store_run_one}
use Rattle.area.specs.Numbers.{number_words}
use Rattle.area.proofs.numbers.store_number.Goals as goal

pub returns : goal.returns
unfolding number_words
returns c =
    (rw c.store_word.ensures at c.store_word-2.ensures)
    ∙ sym (store_run_cons _ _ _ _ _ _ ∙ store_run_one _ _ _ _ _)
