-- The examples hold: each is computed.
use Rattle.laws.proofs.Prelude.{refl}
use Rattle.laws.specs.Search.{lowest_from, count_below}
use Rattle.laws.specs.Examples.{AllHold, same_words, failures_from, Claims}
use Rattle.laws.proofs.Examples.{all_hold}
use Rattle.directory.specs.Live.{next_live}
use Rattle.directory.specs.Directory.{table_from, formatted_directory, empty_directory}
use Rattle.directory.specs.NewHome.{pages_at, is_fewest, even_home}
use Rattle.directory.specs.Examples.{examples}

pub examples_hold : AllHold examples
unfolding same_words failures_from Claims lowest_from count_below next_live table_from formatted_directory empty_directory
    pages_at is_fewest even_home
examples_hold = all_hold examples refl tt
