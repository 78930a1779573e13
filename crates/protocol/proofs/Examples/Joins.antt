-- The examples of joins and desk questions hold: each is computed.
use Rattle.laws.proofs.Prelude.{refl}
use Rattle.laws.specs.Search.{lowest_from, count_below, in_turn}
use Rattle.laws.specs.Examples.{AllHold, same_words, failures_from, Claims}
use Rattle.laws.proofs.Examples.{all_hold}
use Rattle.directory.specs.Directory.{formatted_directory, table_from, next_live}
use Rattle.area.specs.Prelude.{load, load_run, overwrite, store_run, clear_run, copy_run, zeros, own_release, has_open_release}
use Rattle.area.specs.Prelude.{recorded_release, settled_record, write_record, write_own_record, number_words, number_at}
use Rattle.protocol.specs.Checks.{first_refusal, outside_limits, few_live, bad_home, bad_page, bad_status, bad_release}
use Rattle.protocol.specs.Checks.{bad_card, unfit_rack, awaits_recovery}
use Rattle.protocol.specs.Join.{reset_area, copy_dead_record, joined_memory, join}
use Rattle.protocol.specs.DeskQuestion.{desk_of}
use Rattle.protocol.specs.Examples.Joins.{joined, join_examples}

pub joins_hold : AllHold join_examples
unfolding same_words failures_from Claims number_words number_at lowest_from count_below in_turn load load_run overwrite
    store_run clear_run copy_run zeros formatted_directory table_from next_live own_release has_open_release recorded_release
    settled_record write_record write_own_record first_refusal outside_limits few_live bad_home bad_page bad_status bad_release
    bad_card unfit_rack awaits_recovery reset_area copy_dead_record joined_memory join desk_of joined
joins_hold = all_hold join_examples refl tt
