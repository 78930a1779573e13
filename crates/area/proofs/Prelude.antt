-- What the proofs above name of the laws on the lent memory and on a card's area, in one import.
pub use Rattle.memory.proofs.Index.{area_in, index_same_card, index_same_offset, outside_other_card}
pub use Rattle.memory.proofs.Index.{outside_below, outside_above, outside_fewer}
pub use Rattle.memory.proofs.Words.{length-store, load-store_same, load-store_elsewhere, store_loaded, store_twice}
pub use Rattle.memory.proofs.Runs.{length-zeros, get_or-zeros, load-zeros, get_or-load_run, length-load_run}
pub use Rattle.memory.proofs.Runs.{load_run_append, load_run_is, load_run_zeros, store_run_one, length-store_run}
pub use Rattle.memory.proofs.Runs.{store_run_cons, load-store_run_outside, load-store_run_inside, load_run_store_run}
pub use Rattle.memory.proofs.Runs.{store_run_swap, length_clear_run, load_clear_run_outside, load_clear_run_inside}
pub use Rattle.memory.proofs.Runs.{length_copy_run, load_copy_run_outside, load_copy_run_inside}
pub use Rattle.area.proofs.NumberWords.{length_number, number_kept, number_is, number_zero, number_then}
pub use Rattle.area.proofs.Regions.{Region, In, outside, region, NotIn, in_or_not, Contains, own_region}
pub use Rattle.area.proofs.Regions.{open_region, record_region, list_region, records_apart, stamp_in, done_in}
pub use Rattle.area.proofs.Regions.{desk_in, page_region, half_region}
pub use Rattle.area.proofs.OwnWords.{number_read, desk_read, SameOwn, SameRelease, same_own_release}
pub use Rattle.area.proofs.OwnWords.{own_words_kept, own_kept, open_kept, list_kept, is_open_kept, steps_kept}
pub use Rattle.area.proofs.Record.{recorded_is, under_way_yes, under_way_no, settled_stamp, settled_done}
pub use Rattle.area.proofs.Record.{settled_desk, length_record, load_beside_record, record_word}
