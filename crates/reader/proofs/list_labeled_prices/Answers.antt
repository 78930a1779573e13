-- `reader::list_labeled_prices` meets its contract.
use mathlib.Core.Path.{ap, ◌∙◌}
use native.Mathlib.Omega.{arith}
use lib.ListN.{length, length-append}
use Rattle.reader.specs.Left.{left}
use Rattle.reader.proofs.Listing.{turn_of, all_had, labeled_next, few_prices}
use Rattle.reader.proofs.list_labeled_prices.Goals as goal

pub bounds-prices-count : goal.bounds-prices-count
bounds-prices-count c =
    let new = ap left c.into_iter-price-iterator.ensures.into_iter_gives ∙ c.new-price-items.ensures in
    let turn = turn_of _ _ _ new _ _ c.loop-price.yielded_by _ _ c.next.ensures.steps _ c.in-Some.is in
    omega arith

pub offset_bounds-prices-count : goal.offset_bounds-prices-count
offset_bounds-prices-count c =
    let new = ap left c.into_iter-price-iterator.ensures.into_iter_gives ∙ c.new-price-items.ensures in
    let turn = turn_of _ _ _ new _ _ c.loop-price.yielded_by _ _ c.next.ensures.steps _ c.in-Some.is in
    omega arith

pub overflow_add-count : goal.overflow_add-count
overflow_add-count c =
    let new = ap left c.into_iter-price-iterator.ensures.into_iter_gives ∙ c.new-price-items.ensures in
    let turn = turn_of _ _ _ new _ _ c.loop-price.yielded_by _ _ c.next.ensures.steps _ c.in-Some.is in
    omega arith

pub loop-price-preserved : goal.loop-price-preserved
loop-price-preserved c =
    let far = c.loop-price.invariant in
    record {
      counted = simp length-append (omega arith);
      listed = rw (far.counted, far.listed, c.new.ensures) (labeled_next c.loop-price.yielded _ _);
    }

pub overflow_cast-result : goal.overflow_cast-result
overflow_cast-result c =
    let new = ap left c.into_iter-price-iterator.ensures.into_iter_gives ∙ c.new-price-items.ensures in
    let all = all_had _ _ _ new _ _ c.loop-price.yielded_by _ _ c.next.ensures.steps c.in-None.is in
    omega (arith, few_prices c.args.pages c.args.list.now, ap length all)

pub returns : goal.returns
returns c =
    let new = ap left c.into_iter-price-iterator.ensures.into_iter_gives ∙ c.new-price-items.ensures in
    let all = all_had _ _ _ new _ _ c.loop-price.yielded_by _ _ c.next.ensures.steps c.in-None.is in
    rw (← all) record { count = c.loop-price.invariant.counted; prices = c.loop-price.invariant.listed }
