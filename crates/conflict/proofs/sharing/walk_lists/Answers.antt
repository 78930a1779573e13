-- Rests on `Passed` over the cards, and over a card's list on the laws of a turn: what is left finds what all finds.
use mathlib.Core.Path.{sym, ap, ◌∙◌}
use native.Mathlib.Omega.{arith}
use Rattle.laws.proofs.Search.{passed_more, lowest_below_found, lowest_below_none}
use Rattle.reader.specs.Left.{left}
use Rattle.reader.proofs.Listing.{turn_of}
use Rattle.conflict.proofs.sharing.Turns.{any_hit, any_miss, any_none, marks_other, marks_not}
use Rattle.conflict.proofs.sharing.walk_lists.Goals as goal
use Rattle.conflict.proofs.sharing.walk_lists.Goals.{then-is_other+in-None, else-is_other}

pub label-requires : goal.label-requires
label-requires c =
    let new = ap left c.into_iter-price-iterator.ensures.into_iter_gives ∙ c.new-price-items.ensures in
    let turn = turn_of _ _ _ new _ _ c.loop-price.yielded_by _ _ c.next.ensures.steps _ c.in-Some.is in
    (omega arith, turn.in_page)

pub bounds-named-label : goal.bounds-named-label
bounds-named-label c =
    let new = ap left c.into_iter-price-iterator.ensures.into_iter_gives ∙ c.new-price-items.ensures in
    let turn = turn_of _ _ _ new _ _ c.loop-price.yielded_by _ _ c.next.ensures.steps _ c.in-Some.is in
    omega arith

pub loop-price-init : goal.loop-price-init
loop-price-init c =
    let all = ap left c.into_iter-price-iterator.ensures.into_iter_gives ∙ c.new-price-items.ensures in
    (c.cards.invariant.0, rw (all, c.open_list-list.ensures.result_value))

pub loop-price-preserved : goal.loop-price-preserved
loop-price-preserved c =
    let here = rw c.in-Some.is at c.next.ensures.steps in
    let miss = rw c.label.ensures at c.if-named-label.false in
    (c.loop-price.invariant.0, sym (any_miss here _ miss) ∙ c.loop-price.invariant.1)

pub cards-preserved : goal.cards-preserved
cards-preserved c =
    let far = c.cards.invariant in
    elim c.if-is_other.branch [
      | then-is_other+in-None w ↦
          let end = rw w.in-None.is at w.next.ensures.steps in
          let miss =
          marks_other _ _ _ _ _ _ (sym c.is_other.ensures ∙ w.if-is_other.true) ∙ sym w.loop-price.invariant.1
          ∙ any_none end.0 _
          in
          (w.found-is ∙ w.loop-price.invariant.0, passed_more far.1 c.cards-test.true miss)
      | else-is_other w ↦
          let miss = marks_not _ _ _ _ _ _ (sym c.is_other.ensures ∙ w.if-is_other.false) in
          (w.found-is ∙ far.0, passed_more far.1 c.cards-test.true miss)
    ]

pub returns-after-cards : goal.returns-after-cards
returns-after-cards c = c.cards.invariant.0 ∙ lowest_below_none c.cards.invariant.1 c.cards-test.false

pub returns-then-named-label : goal.returns-then-named-label
returns-then-named-label c =
    let here = rw c.in-Some.is at c.next.ensures.steps in
    let hit = rw c.label.ensures at c.if-named-label.true in
    let some =
    marks_other _ _ _ _ _ _ (sym c.is_other.ensures ∙ c.if-is_other.true) ∙ sym c.loop-price.invariant.1
    ∙ any_hit here _ hit
    in
    lowest_below_found c.cards.invariant.1 c.cards-test.true some
