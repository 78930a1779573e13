-- The examples of recoveries hold: each is computed.
use Rattle.laws.proofs.Prelude.{refl}
use Rattle.laws.specs.Search.{lowest_from, count_below, in_turn}
use Rattle.laws.specs.Examples.{AllHold, same_words, failures_from, Claims}
use Rattle.laws.proofs.Examples.{all_hold}
use Rattle.directory.specs.Directory.{formatted_directory, table_from, next_live}
use Rattle.directory.specs.NewHome.{pages_at, is_fewest, even_home}
use Rattle.area.specs.Prelude.{load, store, load_run, overwrite, store_run, clear_run, copy_run, zeros, own_release}
use Rattle.area.specs.Prelude.{open_release, open_list, steps_of, has_open_release, recorded_release, under_way, settled_record}
use Rattle.area.specs.Prelude.{write_record, write_own_record, number_words, number_at}
use Rattle.diff.specs.Reading.{word_step, read_from}
use Rattle.diff.specs.Prices.{prices_from, prices_of}
use Rattle.protocol.specs.Release.{release_writes, make_write, close, step_memory}
use Rattle.protocol.specs.Checks.{first_refusal, outside_limits, few_live, bad_home, bad_page, bad_status, bad_release}
use Rattle.protocol.specs.Checks.{bad_card, unfit_rack, awaits_recovery}
use Rattle.protocol.specs.Opening.{open_memory}
use Rattle.protocol.specs.Recovery.{step_times, run_to_close, close_releases, restore_home, restore_page, restore_pages}
use Rattle.protocol.specs.Recovery.{lost_home, kept_home, new_home_of, copy_to_new_home, copy_to_new_homes, move_home}
use Rattle.protocol.specs.Recovery.{recovered_directory, write_failed, write_records, failed_release, restored_memory}
use Rattle.protocol.specs.Recovery.{recovered_memory, awaited_card, recovery_by, moved_below}
use Rattle.protocol.specs.Examples.Racks.{small_memory}
use Rattle.protocol.specs.Examples.Recoveries.{rolled_forward, rolled_back, dead_area, closed_without1, closed_in_turn}
use Rattle.protocol.specs.Examples.Recoveries.{recovered, recovery_examples}

pub recoveries_hold : AllHold recovery_examples
unfolding same_words failures_from Claims number_words number_at lowest_from count_below in_turn load store load_run overwrite
    store_run clear_run copy_run zeros formatted_directory table_from next_live word_step read_from prices_from prices_of
    own_release open_release open_list steps_of has_open_release release_writes make_write close step_memory recorded_release under_way
    settled_record write_record write_own_record first_refusal outside_limits few_live bad_home bad_page bad_status bad_release
    bad_card unfit_rack awaits_recovery open_memory step_times run_to_close close_releases restore_home restore_page restore_pages
    lost_home kept_home new_home_of copy_to_new_home copy_to_new_homes move_home recovered_directory write_failed write_records
    failed_release restored_memory recovered_memory awaited_card recovery_by moved_below pages_at is_fewest even_home
    small_memory rolled_forward rolled_back dead_area closed_without1 closed_in_turn recovered
recoveries_hold = all_hold recovery_examples refl tt
