-- Rests on the order of checks: those of a running rack, then its own tests in the same order.
use mathlib.Core.Path.{refl, sym, ◌∙◌}
use borrow.Author.Tests.{lt-ltb, le-leb, lt-leb}
use Rattle.directory.specs.Lent.{lent}
use Rattle.std.proofs.lemmas.Result.{err_from_is_err_and}
use Rattle.laws.proofs.Search.{lowest_below_some, lowest_below_nothing}
use Rattle.checks.proofs.Order.{refused_first, passed_first, first_refuses, first_passes, last_passes}
use Rattle.checks.proofs.Passing.{memory_of, running_within}
use Rattle.refusals.proofs.check_page.Goals as goal

pub returns-in_err-check_running : goal.returns-in_err-check_running
returns-in_err-check_running c =
    let p = err_from_is_err_and c.from_residual.result c.from_residual.ensures.1 in
    rw (p.1, p.2) (refused_first _ _ _ refl c.check_running.ensures c.in_err-check_running.was)

pub returns-then-directory-page : goal.returns-then-directory-page
returns-then-directory-page c =
    sym (passed_first _ _ _ refl c.check_running.ensures c.in_ok-check_running.was
    ∙ first_refuses _ _ _ _ _ (le-leb _ _ c.if-directory-page.true))

pub lowest_in_motion-requires : goal.lowest_in_motion-requires
lowest_in_motion-requires c =
    let a = c.args in
    memory_of (running_within (lent a.directory) a.memory.now c.check_running.ensures c.in_ok-check_running.was)

pub returns-in-Some : goal.returns-in-Some
returns-in-Some c =
    let found = lowest_below_some _ _ _ (sym c.lowest_in_motion.ensures ∙ c.in-Some.is) in
    rw found.is
    (sym (passed_first _ _ _ refl c.check_running.ensures c.in_ok-check_running.was
    ∙ first_passes _ _ _ _ _ (lt-leb _ _ c.if-directory-page.false)
    ∙ first_refuses _ _ _ _ _ (lt-ltb _ _ (rw found.is at found.below))))

pub returns-in-None : goal.returns-in-None
returns-in-None c =
    let none = lowest_below_nothing _ _ (sym c.lowest_in_motion.ensures ∙ c.in-None.is) in
    sym (passed_first _ _ _ refl c.check_running.ensures c.in_ok-check_running.was
    ∙ first_passes _ _ _ _ _ (lt-leb _ _ c.if-directory-page.false)
    ∙ last_passes _ _ _ _ none)
