-- `diff::marks_are_changes` meets its contract: the theorems are `marks_are_changes` and `stores_changes` of
-- proofs/MadeOfChanges.antt.
use Rattle.diff.proofs.MadeOfChanges.{marks_are_changes, stores_changes}
use Rattle.diff.proofs.marks_are_changes.Goals as goal

pub returns : goal.returns
returns c = record { made = marks_are_changes; accepted = stores_changes }
