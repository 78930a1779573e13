-- Rests on `marked_next`, and on where the prices of a list can be.
use mathlib.Core.Path.{ap, ◌∙◌}
use native.Mathlib.Omega.{arith}
use Rattle.reader.specs.Left.{left}
use Rattle.reader.proofs.Listing.{turn_of, all_had}
use Rattle.conflict.proofs.Marks.{marked_next}
use Rattle.conflict.proofs.sharing.mark_labels.Goals as goal

pub label-requires : goal.label-requires
label-requires c =
    let new = ap left c.into_iter-price-iterator.ensures.into_iter_gives ∙ c.new-price-items.ensures in
    let turn = turn_of _ _ _ new _ _ c.loop-price.yielded_by _ _ c.next.ensures.steps _ c.in-Some.is in
    (omega arith, turn.in_page)

pub bounds-marks-label : goal.bounds-marks-label
bounds-marks-label c =
    let new = ap left c.into_iter-price-iterator.ensures.into_iter_gives ∙ c.new-price-items.ensures in
    let turn = turn_of _ _ _ new _ _ c.loop-price.yielded_by _ _ c.next.ensures.steps _ c.in-Some.is in
    omega arith

pub loop-price-preserved : goal.loop-price-preserved
loop-price-preserved c = rw (← marked_next, ← c.loop-price.invariant, c.label.ensures)

pub returns : goal.returns
returns c =
    let new = ap left c.into_iter-price-iterator.ensures.into_iter_gives ∙ c.new-price-items.ensures in
    let all = all_had _ _ _ new _ _ c.loop-price.yielded_by _ _ c.next.ensures.steps c.in-None.is in
    rw (← all) c.loop-price.invariant
