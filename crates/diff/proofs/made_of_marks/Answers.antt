-- `diff::made_of_marks` meets its contract: the theorems are `made_of_marks_only` and `makes_allowed_diff` of
-- proofs/MadeDiff.antt.
use Rattle.diff.proofs.MadeDiff.{made_of_marks_only, makes_allowed_diff}
use Rattle.diff.proofs.made_of_marks.Goals as goal

pub returns : goal.returns
returns c = record { made = made_of_marks_only; accepted = makes_allowed_diff }
