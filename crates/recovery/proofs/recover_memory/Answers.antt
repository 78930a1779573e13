-- Rests on what its parts ensure: what is done once the releases are closed is the rest of the recovery.
use Rattle.protocol.specs.Recovery.{failed_release, restored_memory, recovered_memory}
use Rattle.release.proofs.Callers.{homes_kept}
use Rattle.recovery.specs.Closing.{recovered_closed}
use Rattle.recovery.proofs.Kept.{rack_kept, some_live}
use Rattle.recovery.proofs.recover_memory.Goals as goal

pub close_releases-requires : goal.close_releases-requires
close_releases-requires c =
    let pre = c.requires in
    record {
      rack_in = pre.rack_in;
      homes_of = pre.homes_of;
      some_live = some_live pre.other_live;
      failed_bound = pre.failed_in.0;
      releases_in = pre.releases_in;
    }

pub recover_closed-requires : goal.recover_closed-requires
recover_closed-requires c =
    let same = c.close_releases.auto.memory in
    let pre = c.requires in
    record {
      rack_in = rack_kept pre.rack_in same;
      homes_of = homes_kept pre.homes_of same;
      other_live = pre.other_live;
      failed_in = pre.failed_in;
      desk_len = pre.desk_len;
    }

pub returns : goal.returns
unfolding failed_release recovered_memory restored_memory recovered_closed
returns c =
    rw c.close_releases.ensures at c.recover_closed.ensures
