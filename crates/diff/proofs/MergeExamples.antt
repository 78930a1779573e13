-- The examples of merged diffs hold: each is computed.
use Rattle.laws.proofs.Prelude.{refl}
use Rattle.laws.specs.Examples.{AllHold, same_words, failures_from, Claims}
use Rattle.laws.proofs.Examples.{all_hold}
use Rattle.diff.specs.Reading.{word_step, read_from, check_diff}
use Rattle.diff.specs.Prices.{prices_from, prices_of, names, applied_at}
use Rattle.diff.specs.Encoding.{listed, run_length, run_header, encode_from}
use Rattle.diff.specs.Merging.{merged_diff, merge_diffs}
use Rattle.diff.specs.MergeExamples.{on_pages, merge_examples}

pub merge_examples_hold : AllHold merge_examples
unfolding same_words failures_from Claims word_step read_from check_diff prices_from prices_of names applied_at listed run_length
    run_header encode_from merged_diff merge_diffs on_pages
merge_examples_hold = all_hold merge_examples refl tt
