-- The examples of releases hold: each is computed.
use Rattle.laws.proofs.Prelude.{refl}
use Rattle.laws.specs.Search.{lowest_from, count_below}
use Rattle.laws.specs.Examples.{AllHold, same_words, failures_from, Claims}
use Rattle.laws.proofs.Examples.{all_hold}
use Rattle.directory.specs.Directory.{formatted_directory, table_from, next_live}
use Rattle.area.specs.Prelude.{load, store, load_run, overwrite, store_run, clear_run, zeros, own_release, open_release}
use Rattle.area.specs.Prelude.{open_list, steps_of, has_open_release, recorded_release, under_way, settled_record, number_words}
use Rattle.area.specs.Prelude.{number_at}
use Rattle.diff.specs.Reading.{word_step, read_from, check_diff}
use Rattle.diff.specs.Prices.{prices_from, prices_of, names}
use Rattle.protocol.specs.Release.{release_writes, make_write, close, step_memory}
use Rattle.protocol.specs.Checks.{first_refusal, outside_limits, few_live, bad_home, bad_page, bad_status, bad_release}
use Rattle.protocol.specs.Checks.{bad_card, unfit_rack, awaits_recovery}
use Rattle.protocol.specs.Opening.{share_word, shares_with, open_memory}
use Rattle.protocol.specs.Calls.{opening, step, desk_question}
use Rattle.protocol.specs.DeskQuestion.{desk_of}
use Rattle.protocol.specs.Examples.Racks.{small_memory}
use Rattle.protocol.specs.Examples.Releases.{before_opening, opened, stepped_once, stepped_twice, asked_in_motion}
use Rattle.protocol.specs.Examples.Releases.{release_examples}

pub releases_hold : AllHold release_examples
unfolding same_words failures_from Claims number_words number_at lowest_from count_below load store load_run overwrite
    store_run clear_run zeros formatted_directory table_from next_live word_step read_from check_diff prices_from prices_of names
    own_release open_release open_list steps_of has_open_release release_writes make_write close step_memory recorded_release under_way
    settled_record first_refusal outside_limits few_live bad_home bad_page bad_status bad_release bad_card unfit_rack
    awaits_recovery share_word shares_with open_memory opening step small_memory before_opening opened stepped_once
    stepped_twice asked_in_motion desk_of desk_question
releases_hold = all_hold release_examples refl tt
