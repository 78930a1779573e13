-- Rests on `records_by_marks`: the records by the directories before and after the failure are those of the rack.
use Rattle.area.specs.Releases.{release_of}
use Rattle.recovery.proofs.Marks.{records_by_marks}
use Rattle.recovery.proofs.records.write_records.Goals as goal

pub returns : goal.returns
returns c =
    let a = c.args in
    let stored = rw c.settled_record-words.ensures at c.write_failed_records.ensures in
    let r = release_of a.number a.desk.now in
    rw c.write_own_records.ensures
    (records_by_marks a.directory a.failed r a.memory.now c.mark_live-before.ensures stored)
