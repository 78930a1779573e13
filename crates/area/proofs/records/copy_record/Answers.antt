-- Rests on what `record_at` and `copy_run` ensure.
use Rattle.area.proofs.records.copy_record.Goals as goal

pub returns : goal.returns
returns c =
    rw c.record_at-record.ensures at
    c.copy_run.ensures
