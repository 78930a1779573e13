-- The examples of refusals hold: each is computed.
use Rattle.laws.proofs.Prelude.{refl}
use Rattle.laws.specs.Search.{lowest_from, count_below, in_turn}
use Rattle.laws.specs.Examples.{AllHold, same_words, failures_from, Claims}
use Rattle.laws.proofs.Examples.{all_hold}
use Rattle.directory.specs.Directory.{formatted_directory, empty_directory, table_from, next_live}
use Rattle.area.specs.Prelude.{load, store, load_run, overwrite, store_run, clear_run, copy_run, zeros, own_release}
use Rattle.area.specs.Prelude.{open_release, open_list, steps_of, has_open_release, recorded_release, number_words, number_at}
use Rattle.diff.specs.Reading.{word_step, read_from, check_diff}
use Rattle.diff.specs.Prices.{prices_from, prices_of, names}
use Rattle.protocol.specs.Release.{release_writes, make_write, close, step_memory}
use Rattle.protocol.specs.Checks.{first_refusal, outside_limits, few_live, bad_home, bad_page, bad_status, bad_release}
use Rattle.protocol.specs.Checks.{bad_card, unfit_rack, awaits_recovery}
use Rattle.protocol.specs.Calls.{formatting, opening, step, fetch, failure, recovery_by, join, desk_question}
use Rattle.protocol.specs.Opening.{share_word, shares_with, open_memory}
use Rattle.protocol.specs.Fetch.{names_page, in_motion, committed_page}
use Rattle.protocol.specs.Examples.Racks.{small_memory}
use Rattle.protocol.specs.Examples.Refusals.{two_open, nine_closed, four_copies, refusal_examples}

pub refusals_hold : AllHold refusal_examples
unfolding same_words failures_from Claims number_words number_at lowest_from count_below in_turn load store load_run overwrite
    store_run clear_run copy_run zeros formatted_directory empty_directory table_from next_live word_step read_from check_diff
    prices_from prices_of names own_release open_release open_list steps_of has_open_release release_writes make_write close step_memory
    recorded_release first_refusal outside_limits few_live bad_home bad_page bad_status bad_release bad_card unfit_rack
    awaits_recovery formatting share_word shares_with open_memory opening step names_page in_motion committed_page fetch
    failure recovery_by join desk_question small_memory two_open nine_closed four_copies
refusals_hold = all_hold refusal_examples refl tt
