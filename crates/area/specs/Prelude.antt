-- What the specifications above name of the lent memory and of a card's area, in one import.
unfoldable pub use Rattle.memory.specs.Words.{load, store, load_run, overwrite, store_run, zeros, clear_run, copy_run}
pub use Rattle.memory.specs.Words.{index_of, AreaIn}
pub use Rattle.area.specs.Layout.{number_size, desk_size, own_stamp, own_desk, own_size, open_flag, steps_made}
pub use Rattle.area.specs.Layout.{release_number, release_desk, release_size, records_start, record_size, desk_in_record}
pub use Rattle.area.specs.Layout.{record_count}
pub use Rattle.area.specs.Layout.{record_at, record_stamp, record_done, record_desk, list_start, list_size, tentative}
pub use Rattle.area.specs.Layout.{committed, pages_start, page_size, stored_page_size, page_at, tentative_half}
pub use Rattle.area.specs.Layout.{committed_half, area_size}
pub use Rattle.area.specs.RackMemory.{MemoryOf}
unfoldable pub use Rattle.area.specs.Numbers.{number_words, number_at}
pub use Rattle.area.specs.Numbers.{load_number, store_number}
unfoldable pub use Rattle.area.specs.Releases.{own_release, open_release, open_list, steps_of, has_open_release}
pub use Rattle.area.specs.Releases.{Release, release_of, release_words}
unfoldable pub use Rattle.area.specs.Record.{recorded_release, under_way, settled_record, write_record}
unfoldable pub use Rattle.area.specs.Record.{write_own_record}
