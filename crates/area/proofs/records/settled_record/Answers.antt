-- Rests on `record_words`: stamp, done mark and desk laid over a record that is 0.
use mathlib.Core.Path.{◌∙◌}
use Rattle.memory.specs.Words.{zeros}
use Rattle.area.proofs.records.Stores.{record_words}
use Rattle.area.proofs.records.settled_record.Goals as goal

pub returns : goal.returns
unfolding zeros
returns c =
    (rw (c.desk_in_record-start.ensures, c.store_number-2.ensures, c.store_number.ensures) at
    c.store_run.ensures)
    ∙ record_words c.args.number c.args.desk.now c.requires
