-- Rests on the order of checks: those of a running rack, then the number of cards.
use mathlib.Core.Path.{refl, sym, ◌∙◌}
use Rattle.std.proofs.lemmas.Result.{err_from_is_err_and}
use Rattle.checks.proofs.Order.{refused_first, passed_first, last_checked}
use Rattle.checks.proofs.check_card.Goals as goal

pub returns-in_err-check_running : goal.returns-in_err-check_running
returns-in_err-check_running c =
    let p = err_from_is_err_and c.from_residual.result c.from_residual.ensures.1 in
    rw (p.1, p.2) (refused_first _ _ _ refl c.check_running.ensures c.in_err-check_running.was)

pub returns : goal.returns
returns c = last_checked _ _ c.last_check.ensures ∙ sym (passed_first _ _ _ refl c.check_running.ensures c.in_ok-check_running.was)
