-- `protocol::rack_always_fits` meets its contract: the theorem is `always_fits` of proofs/demands/AlwaysFits.antt.
use Rattle.directory.specs.NewHome.{even_home}
use Rattle.directory.proofs.NewHome.{even_names_live}
use Rattle.protocol.proofs.demands.AlwaysFits.{always_fits}
use Rattle.protocol.proofs.rack_always_fits.Goals as goal

pub returns : goal.returns
returns c = record { always_fits = always_fits even_home even_names_live; any_rule = always_fits }
