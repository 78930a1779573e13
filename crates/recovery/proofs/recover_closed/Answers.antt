-- Rests on what its parts ensure, each of them a part of the definition.
use mathlib.Core.Path.{◌∙◌}
use Rattle.protocol.specs.Recovery.{recovered_directory}
use Rattle.release.proofs.Callers.{homes_kept}
use Rattle.recovery.specs.Closing.{recovered_closed}
use Rattle.recovery.proofs.Kept.{rack_kept, some_live, next_in}
use Rattle.recovery.proofs.recover_closed.Goals as goal

pub load_record-number-requires : goal.load_record-number-requires
load_record-number-requires c =
    let pre = c.requires in
    rw (c.area_size-size.ensures, c.next_live-holder.ensures)
    record {
      pages_start_le_size = next_in pre.rack_in (some_live pre.other_live) c.args.failed;
      card_bound = (pre.failed_in.0, pre.desk_len);
    }

pub under_way-forward-requires : goal.under_way-forward-requires
under_way-forward-requires c =
    let pre = c.requires in
    rw (c.area_size-size.ensures, c.next_live-holder.ensures)
    record {
      pages_start_le_size = next_in pre.rack_in (some_live pre.other_live) c.args.failed;
      card_bound = pre.failed_in.0;
    }

pub restore_pages-requires : goal.restore_pages-requires
restore_pages-requires c =
    rw (c.lend.ensures.header, c.lend.ensures.primary, c.lend.ensures.secondary) c.requires.homes_of

pub move_homes-moved-requires : goal.move_homes-moved-requires
move_homes-moved-requires c =
    let pre = c.requires in
    let same = c.restore_pages.auto.memory in
    record {
      rack_in = rack_kept pre.rack_in same;
      homes_of = homes_kept pre.homes_of same;
      other_live = pre.other_live;
      failed_in = pre.failed_in;
    }

pub write_records-requires : goal.write_records-requires
write_records-requires c =
    let pre = c.requires in
    let same = c.move_homes-moved.auto.memory ∙ c.restore_pages.auto.memory in
    record {
      rack_in = rack_kept pre.rack_in same;
      some_live = some_live pre.other_live;
      failed_bound = (pre.failed_in.0, c.load_record-number.auto.desk ∙ pre.desk_len);
    }

pub returns : goal.returns
unfolding recovered_closed recovered_directory
returns c =
    let says = rw (c.area_size-size.ensures, c.next_live-holder.ensures) at c.load_record-number.ensures in
    let forward = rw (c.area_size-size.ensures, c.next_live-holder.ensures) at c.under_way-forward.ensures in
    let pages = rw (forward, c.lend.ensures.header, c.lend.ensures.primary, c.lend.ensures.secondary) at c.restore_pages.ensures in
    let homes = rw pages at c.move_homes-moved.ensures.memory in
    record {
      directory = rw c.move_homes-moved.ensures.homes at c.with_status.ensures;
      number = says.number;
      desk = says.desk;
      memory = rw (homes, says.number, says.desk) at c.write_records.ensures;
    }
