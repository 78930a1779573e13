-- Rests on `page_next`, and on how many prices a list can have.
use mathlib.Core.Path.{ap, ◌∙◌}
use native.Mathlib.Omega.{arith}
use lib.ListN.{length-append}
use Rattle.reader.specs.Left.{left}
use Rattle.reader.proofs.Listing.{turn_of, all_had}
use Rattle.conflict.proofs.motion.Turns.{page_next}
use Rattle.conflict.proofs.motion.tally_prices.Goals as goal

pub overflow_add-prices : goal.overflow_add-prices
overflow_add-prices c =
    let new = ap left c.into_iter-price-iterator.ensures.into_iter_gives ∙ c.new-price-items.ensures in
    let turn = turn_of _ _ _ new _ _ c.loop-price.yielded_by _ _ c.next.ensures.steps _ c.in-Some.is in
    omega arith

pub loop-price-preserved : goal.loop-price-preserved
loop-price-preserved c =
    let far = c.loop-price.invariant in
    record { counted = simp length-append (omega arith); found = rw (page_next, ← far.found) }

pub returns : goal.returns
returns c =
    let new = ap left c.into_iter-price-iterator.ensures.into_iter_gives ∙ c.new-price-items.ensures in
    let all = all_had _ _ _ new _ _ c.loop-price.yielded_by _ _ c.next.ensures.steps c.in-None.is in
    rw (← all, c.loop-price.invariant.counted, c.loop-price.invariant.found)
