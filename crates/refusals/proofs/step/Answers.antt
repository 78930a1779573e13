-- Rests on the order of checks: those for a live card, then whether a release is open.
use mathlib.Core.Path.{refl, sym, ◌∙◌}
use Rattle.directory.specs.Lent.{lent}
use Rattle.std.proofs.lemmas.Result.{err_from_is_err_and}
use Rattle.checks.proofs.Order.{refused_first, passed_first, last_checked}
use Rattle.checks.proofs.Passing.{memory_of, live_card_within}
use Rattle.refusals.proofs.step.Goals as goal

pub returns-in_err-check_live_card : goal.returns-in_err-check_live_card
returns-in_err-check_live_card c =
    let p = err_from_is_err_and c.from_residual.result c.from_residual.ensures.1 in
    rw (p.1, p.2) (refused_first _ _ _ refl c.check_live_card.ensures c.in_err-check_live_card.was)

pub is_open_on-requires : goal.is_open_on-requires
is_open_on-requires c =
    let a = c.args in
    let d = lent a.directory in
    let card = live_card_within d a.memory.now a.card c.check_live_card.ensures c.in_ok-check_live_card.was in
    record { memory_of = memory_of card.0; card_lt_cards = card.1 }

pub returns : goal.returns
returns c =
    (rw c.is_open_on.ensures at (last_checked _ _ c.last_check.ensures))
    ∙ sym (passed_first _ _ _ refl c.check_live_card.ensures c.in_ok-check_live_card.was)
