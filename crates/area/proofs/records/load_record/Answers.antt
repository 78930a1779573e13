-- Rests on what the loads ensure: the stamp, and the desk of its evenness.
use Rattle.area.specs.Record.{recorded_release}
use Rattle.area.proofs.records.load_record.Goals as goal

pub returns : goal.returns
unfolding recorded_release
returns c =
    let loaded = rw c.record_stamp.ensures at c.load_number-number.ensures in record {
      number = loaded;
      desk = rw (c.record_desk-start.ensures, loaded, c.requires.card_bound.1) at
          c.load_run.ensures;
    }
