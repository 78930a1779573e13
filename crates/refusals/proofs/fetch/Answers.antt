-- Rests on the order of checks: those of the page, then that of the buffer.
use mathlib.Core.Path.{refl, sym, ◌∙◌}
use Rattle.std.proofs.lemmas.Result.{err_from_is_err_and}
use Rattle.checks.proofs.Order.{refused_first, passed_first, last_checked}
use Rattle.refusals.proofs.fetch.Goals as goal

pub returns-in_err-check_page : goal.returns-in_err-check_page
returns-in_err-check_page c =
    let p = err_from_is_err_and c.from_residual.result c.from_residual.ensures.1 in
    rw (p.1, p.2) (refused_first _ _ _ refl c.check_page.ensures c.in_err-check_page.was)

pub returns : goal.returns
returns c =
    last_checked _ _ c.last_check.ensures
    ∙ sym (passed_first _ _ _ refl c.check_page.ensures c.in_ok-check_page.was)
