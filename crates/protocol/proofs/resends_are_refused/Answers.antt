-- `protocol::resends_are_refused` meets its contract: the theorem is `resends_refused` of
-- proofs/demands/ResendsRefused.antt.
use Rattle.directory.specs.NewHome.{even_home}
use Rattle.directory.proofs.NewHome.{even_names_live}
use Rattle.protocol.proofs.demands.ResendsRefused.{resends_refused}
use Rattle.protocol.proofs.resends_are_refused.Goals as goal

pub returns : goal.returns
returns c = record { resends_refused = resends_refused even_home even_names_live; any_rule = resends_refused }
