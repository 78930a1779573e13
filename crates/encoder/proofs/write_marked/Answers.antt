-- `encoder::write_marked` meets its contract: a diff that has room is written.
use Rattle.std.proofs.Common.{arith}
use Rattle.diff.proofs.Room.{within_room, written_all}
use Rattle.encoder.proofs.write_marked.Goals as goal

pub returns-clause-written : goal.returns-clause-written
returns-clause-written c = grind (arith, within_room, written_all)
