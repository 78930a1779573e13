-- Rests on the limits: within them the product fits.
use Prim.Native.Nat.{◌≤◌}
use mathlib.Core.Path.{sym, ◌∙◌}
use native.Mathlib.Nat.{mul-le-mul}
use native.Mathlib.Omega.{arith}
use Rattle.protocol.proofs.checks.Limits.{within_limits}
use Rattle.mover.specs.Forms.{old_form, area_size_in}
use Rattle.mover.proofs.move_checks.outside_limits.Goals as goal

pub overflow_mul-result : goal.overflow_mul-result
overflow_mul-result c =
    let within = within_limits _ _ _ (sym c.outside_limits.ensures ∙ c.if-outside_limits.false) in
    let small : c.places.result.size ≤ area_size_in old_form 64 = rw c.places.ensures (omega (arith, within.pages_most)) in
    omega (arith, mul-le-mul within.cards_most small)
