-- Rests on the order of checks: those for a live card, then how many are live.
use mathlib.Core.Path.{refl, sym, ◌∙◌}
use Rattle.directory.specs.Lent.{lent}
use Rattle.std.proofs.lemmas.Result.{err_from_is_err_and}
use Rattle.checks.proofs.Order.{refused_first, passed_first, last_checked}
use Rattle.checks.proofs.Passing.{live_card_within}
use Rattle.refusals.proofs.failure.Goals as goal

pub returns-in_err-check_live_card : goal.returns-in_err-check_live_card
returns-in_err-check_live_card c =
    let p = err_from_is_err_and c.from_residual.result c.from_residual.ensures.1 in
    rw (p.1, p.2) (refused_first _ _ _ refl c.check_live_card.ensures c.in_err-check_live_card.was)

pub count_live-requires : goal.count_live-requires
count_live-requires c =
    let a = c.args in
    let d = lent a.directory in
    (live_card_within d a.memory.now a.card c.check_live_card.ensures c.in_ok-check_live_card.was).0.cards_most

pub returns : goal.returns
returns c =
    (rw c.count_live.ensures at (last_checked _ _ c.last_check.ensures))
    ∙ sym (passed_first _ _ _ refl c.check_live_card.ensures c.in_ok-check_live_card.was)
