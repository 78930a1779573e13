-- Rests on `area_in`: the card's area is in the memory.
use native.Mathlib.Omega.{arith}
use Rattle.memory.proofs.Index.{area_in}
use Rattle.conflict.proofs.open_list.Goals as goal

pub open_list-requires : goal.open_list-requires
open_list-requires c =
    let pre = c.requires in
    rw c.area_size-size.ensures (omega arith, area_in _ pre.card_lt_cards pre.memory_of.2)
