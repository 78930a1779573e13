-- Rests on `next_below`: the holder is a card.
use native.Mathlib.Omega.{arith}
use Rattle.memory.proofs.Index.{area_in}
use Rattle.recovery.proofs.Kept.{next_below}
use Rattle.recovery.proofs.joining.copy_dead_record.Goals as goal

pub copy_record-requires : goal.copy_record-requires
copy_record-requires c =
    let pre = c.requires in
    let below = next_below pre.some_live c.args.card in
    rw (c.area_size-size.ensures, c.next_live-holder.ensures) record {
      area_in = area_in _ below pre.rack_in.whole;
      area_in_2 = area_in _ pre.joining_lt_cards.0 pre.rack_in.whole;
      pages_start_le_size = (omega arith, omega (arith, pre.rack_in.eight));
    }
