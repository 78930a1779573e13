-- Rests on what the loads and `write_record` ensure.
use Rattle.area.specs.Releases.{own_release}
use Rattle.area.proofs.records.copy_own_record.Goals as goal

pub returns : goal.returns
unfolding own_release
returns c =
    rw (c.load_run.ensures, c.load_number-number.ensures) at c.write_record.ensures
