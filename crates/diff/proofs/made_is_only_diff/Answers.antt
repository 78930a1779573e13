-- `diff::made_is_only_diff` meets its contract: the theorem is `made_is_only_diff` of proofs/MadeOfChanges.antt.
use Rattle.diff.proofs.MadeOfChanges.{made_is_only_diff}
use Rattle.diff.proofs.made_is_only_diff.Goals as goal

pub returns : goal.returns
returns c = made_is_only_diff
