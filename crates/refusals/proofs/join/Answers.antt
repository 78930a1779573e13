-- Rests on the order of checks: those for a card, then its own tests in the same order.
use mathlib.Core.Path.{refl, sym, ◌∙◌}
use Rattle.directory.specs.Lent.{lent}
use Rattle.std.proofs.lemmas.Result.{err_from_is_err_and}
use Rattle.checks.proofs.Order.{refused_first, passed_first, first_refuses, first_passes, last_checked}
use Rattle.checks.proofs.Passing.{memory_of, card_within}
use Rattle.refusals.proofs.join.Goals as goal

pub returns-in_err-check_card : goal.returns-in_err-check_card
returns-in_err-check_card c =
    let p = err_from_is_err_and c.from_residual.result c.from_residual.ensures.1 in
    rw (p.1, p.2) (refused_first _ _ _ refl c.check_card.ensures c.in_err-check_card.was)

pub returns-then-is_live : goal.returns-then-is_live
returns-then-is_live c =
    sym (passed_first _ _ _ refl c.check_card.ensures c.in_ok-check_card.was
    ∙ first_refuses _ _ _ _ _ (sym c.is_live.ensures ∙ c.if-is_live.true))

pub any_open-requires : goal.any_open-requires
any_open-requires c =
    let a = c.args in
    let d = lent a.directory in
    memory_of (card_within d a.memory.now a.card c.check_card.ensures c.in_ok-check_card.was).0

pub returns : goal.returns
returns c =
    (rw c.any_open.ensures at (last_checked _ _ c.last_check.ensures))
    ∙ sym (passed_first _ _ _ refl c.check_card.ensures c.in_ok-check_card.was
    ∙ first_passes _ _ _ _ _ (sym c.is_live.ensures ∙ c.if-is_live.false))
