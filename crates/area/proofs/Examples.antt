-- The examples hold: each is computed.
use Rattle.laws.proofs.Prelude.{refl}
use Rattle.laws.specs.Examples.{AllHold, same_words, failures_from, Claims}
use Rattle.laws.proofs.Examples.{all_hold}
use Rattle.memory.specs.Words.{load, load_run, overwrite, store_run, zeros}
use Rattle.directory.specs.Directory.{table_from}
use Rattle.area.specs.Numbers.{number_words, number_at}
use Rattle.area.specs.Record.{recorded_release, under_way, settled_record}
use Rattle.area.specs.Examples.{examples}

pub examples_hold : AllHold examples
unfolding same_words failures_from Claims load load_run overwrite store_run zeros table_from number_words number_at
    recorded_release under_way
    settled_record
examples_hold = all_hold examples refl tt
