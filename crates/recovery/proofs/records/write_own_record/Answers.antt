-- Rests on `next_in`: the backup by the directory `after` is one of its cards.
use native.Mathlib.Omega.{arith}
use Rattle.memory.proofs.Index.{area_in}
use Rattle.recovery.proofs.Kept.{next_in}
use Rattle.recovery.proofs.records.write_own_record.Goals as goal

pub copy_own_record-requires : goal.copy_own_record-requires
copy_own_record-requires c =
    let rack = c.requires.rack_in in
    let below = c.requires.card_lt_cards.0 in
    rw (c.area_size.ensures, c.backup-holder.ensures)
    record {
      pages_start_le_size = next_in rack c.requires.some_live c.args.card;
      card_bound = (omega (arith, rack.eight), area_in _ below rack.whole);
    }
