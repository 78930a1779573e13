-- `protocol::examples_hold` meets its contract: the examples are computed in proofs/Examples.
use Rattle.protocol.proofs.Examples.Releases.{releases_hold}
use Rattle.protocol.proofs.Examples.Refusals.{refusals_hold}
use Rattle.protocol.proofs.Examples.Recoveries.{recoveries_hold}
use Rattle.protocol.proofs.Examples.Joins.{joins_hold}
use Rattle.protocol.proofs.examples_hold.Goals as goal

pub returns : goal.returns
returns c =
    record {
      releases = releases_hold;
      refusals = refusals_hold;
      recoveries = recoveries_hold;
      joins = joins_hold;
    }
