-- `protocol::releases_count_once` meets its contract: the theorem is `counts_once` of proofs/demands/CountsOnce.antt.
use Rattle.directory.specs.NewHome.{even_home}
use Rattle.directory.proofs.NewHome.{even_names_live}
use Rattle.protocol.proofs.demands.CountsOnce.{counts_once}
use Rattle.protocol.proofs.releases_count_once.Goals as goal

pub returns : goal.returns
returns c = record { counts_once = counts_once even_home even_names_live; any_rule = counts_once }
