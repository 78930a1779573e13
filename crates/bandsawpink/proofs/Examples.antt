-- The examples hold: each is computed.
use Rattle.laws.proofs.Prelude.{refl}
use Rattle.laws.specs.Search.{lowest_from}
use Rattle.laws.specs.Examples.{AllHold, same_words, failures_from, Claims}
use Rattle.laws.proofs.Examples.{all_hold}
use Rattle.directory.specs.Directory.{formatted_directory, table_from, next_live}
use Rattle.bandsawpink.specs.Words.{directory_in, words_of}
use Rattle.bandsawpink.specs.Examples.{examples}

pub examples_hold : AllHold examples
unfolding same_words failures_from Claims lowest_from formatted_directory table_from next_live directory_in words_of
examples_hold = all_hold examples refl tt
