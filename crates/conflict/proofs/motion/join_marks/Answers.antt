-- The loop has passed all pages.
use mathlib.Core.Path.{◌≡◌}
use native.Mathlib.Omega.{arith}
use Rattle.conflict.proofs.motion.join_marks.Goals as goal

pub returns : goal.returns
returns c =
    let at = c.loop-page in
    let end : at.page ≡ 64 = omega arith in
    rw end at at.invariant
