-- Rests on what `settled_record` and `record_at` ensure.
use Rattle.area.specs.Record.{write_record}
use Rattle.area.proofs.records.write_record.Goals as goal

pub returns : goal.returns
unfolding write_record
returns c =
    rw (c.record_at.ensures, c.settled_record-words.ensures) at c.store_run.ensures
