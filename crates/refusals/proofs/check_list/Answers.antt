-- Rests on its tests, the definition's in the same order; a list that reads well has at most 512 words.
use mathlib.Core.Path.{◌≡◌, sym, ◌∙◌}
use Prim.Native.Nat.{◌<◌}
use Rattle.diff.specs.Reading.{check_diff}
use native.Mathlib.Omega.{arith}
use borrow.Author.Tests.{lt-ltb, le-ltb}
use Rattle.std.proofs.lemmas.Result.{err_from_is_err_and}
use Rattle.laws.proofs.Search.{lowest_below_some, lowest_below_nothing}
use Rattle.diff.proofs.OnlyDiff.{allowed_few}
use Rattle.diff.proofs.Checking.{refused_nonzero, refused_faulty, refused_place, passed_allowed}
use Rattle.checks.proofs.Order.{first_refuses, first_passes, last_passes}
use Rattle.refusals.proofs.check_list.Goals as goal

pub returns-in_err-check : goal.returns-in_err-check
returns-in_err-check c =
    let p = err_from_is_err_and c.from_residual.result c.from_residual.ensures.1 in
    let is = c.check.ensures in
    let refused = c.in_err-check.was in
    let a = c.args in
    let some : 0 < (check_diff a.header.pages a.list.now).number = omega (arith, refused_nonzero _ _ is refused) in
    rw (p.1, p.2, refused_faulty _ _ is refused, refused_place _ _ is refused) (sym (first_refuses _ _ _ _ _ (lt-ltb _ _ some)))

pub lowest_sharing-requires : goal.lowest_sharing-requires
lowest_sharing-requires c =
    let allowed = passed_allowed _ _ c.check.ensures c.in_ok-check.was in
    record { memory_of = c.requires; list_len_bound = allowed_few c.args.header.pages c.args.list.now allowed }

pub returns-in-Some : goal.returns-in-Some
returns-in-Some c =
    let a = c.args in
    let allowed : (check_diff a.header.pages a.list.now).number ≡ 0 = passed_allowed _ _ c.check.ensures c.in_ok-check.was in
    let found = lowest_below_some _ _ _ (sym c.lowest_sharing.ensures ∙ c.in-Some.is) in
    rw found.is
    (sym (first_passes _ _ _ _ _ (le-ltb _ _ (omega arith))
    ∙ first_refuses _ _ _ _ _ (lt-ltb _ _ (rw found.is at found.below))))

pub returns-in-None : goal.returns-in-None
returns-in-None c =
    let a = c.args in
    let allowed : (check_diff a.header.pages a.list.now).number ≡ 0 = passed_allowed _ _ c.check.ensures c.in_ok-check.was in
    let none = lowest_below_nothing _ _ (sym c.lowest_sharing.ensures ∙ c.in-None.is) in
    sym (first_passes _ _ _ _ _ (le-ltb _ _ (omega arith)) ∙ last_passes _ _ _ _ none)
