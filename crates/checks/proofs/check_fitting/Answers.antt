-- Rests on the order of checks; a rack that passes the first is within its limits.
use mathlib.Core.Path.{sym, ◌∙◌}
use Rattle.protocol.proofs.checks.Limits.{within_limits}
use Rattle.checks.proofs.Order.{first_refuses, first_passes, last_checked}
use Rattle.checks.proofs.Passing.{memory_of}
use Rattle.checks.proofs.check_fitting.Goals as goal

pub returns-then-outside_limits : goal.returns-then-outside_limits
returns-then-outside_limits c =
    sym (first_refuses _ _ _ _ _ (sym c.outside_limits.ensures ∙ c.if-outside_limits.true))

pub unfit_rack-requires : goal.unfit_rack-requires
unfit_rack-requires c = memory_of (within_limits _ _ _ (sym c.outside_limits.ensures ∙ c.if-outside_limits.false))

pub returns : goal.returns
returns c =
    (rw c.unfit_rack.ensures at (last_checked _ _ c.last_check.ensures))
    ∙ sym (first_passes _ _ _ _ _ (sym c.outside_limits.ensures ∙ c.if-outside_limits.false))
