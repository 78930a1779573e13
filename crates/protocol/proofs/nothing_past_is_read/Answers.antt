-- `protocol::nothing_past_is_read` meets its contract: the theorem is `past_limits` of
-- proofs/past_limits/PastLimits.antt.
use Rattle.protocol.proofs.past_limits.PastLimits.{past_limits}
use Rattle.protocol.proofs.nothing_past_is_read.Goals as goal

pub returns : goal.returns
returns c = past_limits
