-- `protocol::calls_conform_to_book` meets its contract: the theorem is `demand_3` of proofs/demands/Demand3.antt.
use Rattle.directory.specs.NewHome.{even_home}
use Rattle.directory.proofs.NewHome.{even_names_live}
use Rattle.protocol.proofs.demands.Demand3.{demand_3}
use Rattle.protocol.proofs.calls_conform_to_book.Goals as goal

pub returns : goal.returns
returns c = record { demand3 = demand_3 even_home even_names_live; any_rule = demand_3 }
