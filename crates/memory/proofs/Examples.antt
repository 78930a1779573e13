-- The examples hold: each is computed.
use Rattle.laws.proofs.Prelude.{refl}
use Rattle.laws.specs.Examples.{AllHold, same_words, failures_from, Claims}
use Rattle.laws.proofs.Examples.{all_hold}
use Rattle.memory.specs.Words.{load, store, load_run, overwrite, store_run, zeros, clear_run, copy_run}
use Rattle.memory.specs.Examples.{examples}

pub examples_hold : AllHold examples
unfolding same_words failures_from Claims load store load_run overwrite store_run zeros clear_run copy_run
examples_hold = all_hold examples refl tt
