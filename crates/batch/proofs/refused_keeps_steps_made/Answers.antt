-- `batch::refused_keeps_steps_made` meets its contract: the theorem is `batched_demand_1` of proofs/Refused.antt.
use Rattle.batch.proofs.Refused.{batched_demand_1}
use Rattle.batch.proofs.refused_keeps_steps_made.Goals as goal

pub returns : goal.returns
returns c = batched_demand_1
