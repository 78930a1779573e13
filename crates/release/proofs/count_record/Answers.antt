-- Rests on `record_store`: the store is the one that the step makes, and on `step_counted`.
use Rattle.directory.specs.Directory.{directory_by}
use Rattle.release.proofs.Stores.{record_store, record_below, step_counted}
use Rattle.release.proofs.count_record.Goals as goal

pub returns : goal.returns
returns c primary secondary =
    let a = c.args in
    let pre = c.requires in
    let next = pre.steps_value.1 in
    let d = directory_by a.header primary secondary in
    let due = record_store d a.backup a.memory.now a.card a.steps pre.card_in.area a.store next in
    step_counted d a.backup a.memory.now a.card a.steps pre.card_in.area pre.steps_value.0 (record_below _ _ a.store next)
    due (rw (c.area_size.ensures, c.step_record.ensures) at c.count_steps.ensures)
