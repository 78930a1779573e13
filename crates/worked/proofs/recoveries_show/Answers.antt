-- `worked::recoveries_show` meets its contract: the theorem is `shown_holds` of proofs/Rows.antt.
use Rattle.worked.proofs.Rows.{shown_holds}
use Rattle.worked.proofs.recoveries_show.Goals as goal

pub returns : goal.returns
returns c = shown_holds
