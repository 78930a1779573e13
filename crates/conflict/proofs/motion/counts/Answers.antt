-- Rests on `area_in`: the card's area is in the memory.
use native.Mathlib.Omega.{arith}
use Rattle.memory.proofs.Index.{area_in}
use Rattle.conflict.proofs.motion.counts.Goals as goal

pub steps_made-steps-requires : goal.steps_made-steps-requires
steps_made-steps-requires c =
    let pre = c.requires in
    rw c.area_size-size.ensures (omega arith, area_in _ pre.card_lt_cards pre.memory_of.2)
