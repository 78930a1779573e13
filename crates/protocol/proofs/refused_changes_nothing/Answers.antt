-- `protocol::refused_changes_nothing` meets its contract: the theorem is `demand_1` of proofs/demands/Demand1.antt.
use Rattle.protocol.proofs.demands.Demand1.{demand_1}
use Rattle.protocol.proofs.refused_changes_nothing.Goals as goal

pub returns : goal.returns
returns c = demand_1
