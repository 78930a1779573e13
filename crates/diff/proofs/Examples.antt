-- The examples hold: each is computed.
use Rattle.laws.proofs.Prelude.{refl}
use Rattle.laws.specs.Examples.{AllHold, same_words, failures_from, Claims}
use Rattle.laws.proofs.Examples.{all_hold}
use Rattle.diff.specs.Reading.{word_step, read_from, check_diff}
use Rattle.diff.specs.Encoding.{listed, run_length, run_header, encode_from}
use Rattle.diff.specs.Marks.{changed_words, changes_of}
use Rattle.diff.specs.Making.{made_diff, lent_pages, lent_marked, make_diff, mark_changes}
use Rattle.diff.specs.Examples.{one_prices, working_pages, twin_pages, priced_pages, zero_pages, examples}

pub examples_hold : AllHold examples
unfolding same_words failures_from Claims word_step read_from check_diff listed run_length run_header encode_from changed_words
    changes_of made_diff lent_pages lent_marked make_diff mark_changes one_prices working_pages twin_pages priced_pages zero_pages
examples_hold = all_hold examples refl tt
