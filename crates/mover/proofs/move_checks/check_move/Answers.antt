-- Rests on the order of checks, and on `new_memory`: within its limits the memory is one of a rack.
use mathlib.Core.Path.{refl, sym, ◌∙◌}
use Rattle.std.proofs.lemmas.Result.{err_from_is_err_and}
use Rattle.checks.proofs.Order.{refused_first, passed_first, last_checked}
use Rattle.checks.proofs.Passing.{all_pass}
use Rattle.mover.proofs.Limits.{new_memory}
use Rattle.mover.proofs.move_checks.check_move.Goals as goal

pub returns-in_err-check_source-in-New : goal.returns-in_err-check_source-in-New
returns-in_err-check_source-in-New c =
    let p = err_from_is_err_and c.from_residual.result c.from_residual.ensures.1 in
    let reached = rw c.in-New.is at c.check_source-in-New.ensures in
    rw (p.1, p.2, c.in-New.is) (refused_first _ _ _ refl reached c.in_err-check_source-in-New.was)

pub too_high-requires : goal.too_high-requires
too_high-requires c =
    new_memory c.args.directory.header _ _ (all_pass _ refl c.check_source-in-New.ensures c.in_ok-check_source-in-New.was).0

pub returns-in_ok-check_source-in-New : goal.returns-in_ok-check_source-in-New
returns-in_ok-check_source-in-New c =
    let reached = rw c.in-New.is at c.check_source-in-New.ensures in
    rw c.in-New.is
    ((rw c.too_high.ensures at (last_checked _ _ c.last_check.ensures))
    ∙ sym (passed_first _ _ _ refl reached c.in_ok-check_source-in-New.was))
