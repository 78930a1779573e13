-- The examples hold: each is computed.
use Rattle.laws.proofs.Prelude.{refl}
use Rattle.laws.specs.Examples.{AllHold, same_words, failures_from, Claims}
use Rattle.laws.specs.Search.{lowest_from, count_below, in_turn}
use Rattle.laws.proofs.Examples.{all_hold}
use Rattle.directory.specs.Directory.{formatted_directory, table_from, next_live}
use Rattle.directory.specs.NewHome.{pages_at, is_fewest, even_home}
use Rattle.area.specs.Prelude.{load, store, load_run, overwrite, store_run, clear_run, copy_run, zeros, own_release}
use Rattle.area.specs.Prelude.{open_release, open_list, steps_of, has_open_release, recorded_release, under_way, settled_record}
use Rattle.area.specs.Prelude.{write_record, write_own_record, number_words, number_at}
use Rattle.diff.specs.Reading.{word_step, read_from, check_diff}
use Rattle.diff.specs.Prices.{prices_from, prices_of, names}
use Rattle.protocol.specs.Release.{release_writes, make_write, close, step_memory}
use Rattle.protocol.specs.Checks.{first_refusal, outside_limits, few_live, bad_home, bad_page, bad_status, bad_release}
use Rattle.protocol.specs.Checks.{bad_card, unfit_rack, awaits_recovery}
use Rattle.protocol.specs.Calls.{opening, step, failure, recovery_by}
use Rattle.protocol.specs.Opening.{share_word, shares_with, open_memory}
use Rattle.protocol.specs.Recovery.{step_times, run_to_close, close_releases, restore_home, restore_page, restore_pages}
use Rattle.protocol.specs.Recovery.{lost_home, kept_home, new_home_of, copy_to_new_home, copy_to_new_homes, move_home}
use Rattle.protocol.specs.Recovery.{recovered_directory, write_failed, write_records, failed_release, restored_memory}
use Rattle.protocol.specs.Recovery.{recovered_memory, awaited_card, moved_below}
use Rattle.protocol.specs.Examples.Racks.{small_memory}
use Rattle.mover.specs.Fields.{repeated, moved}
use Rattle.mover.specs.Move.{high_record, high_area, move_in, move_back}
use Rattle.mover.specs.Examples.{used_in, at_highest, opened, stepped, closed, recovered, cleared, cleared_back}
use Rattle.mover.specs.Examples.{examples}

pub examples_hold : AllHold examples
unfolding same_words failures_from Claims number_words number_at lowest_from count_below in_turn load store load_run overwrite
    store_run clear_run copy_run zeros formatted_directory table_from next_live prices_of prices_from names read_from word_step
    check_diff own_release open_release open_list steps_of has_open_release release_writes make_write close step_memory recorded_release
    under_way settled_record write_record write_own_record first_refusal outside_limits few_live bad_home bad_page bad_status
    bad_release bad_card unfit_rack awaits_recovery share_word shares_with open_memory opening step failure step_times
    run_to_close close_releases restore_home restore_page restore_pages lost_home kept_home new_home_of copy_to_new_home
    copy_to_new_homes move_home recovered_directory write_failed write_records failed_release restored_memory recovered_memory
    awaited_card recovery_by moved_below pages_at is_fewest even_home small_memory repeated moved high_record high_area move_in
    move_back used_in at_highest opened stepped closed recovered cleared cleared_back
examples_hold = all_hold examples refl tt
