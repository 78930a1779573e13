-- The loop has passed all cards.
use mathlib.Core.Path.{◌≡◌}
use native.Mathlib.Omega.{arith}
use Rattle.conflict.proofs.motion.mark_in_motion.Goals as goal

pub returns : goal.returns
returns c =
    let at = c.loop-card in
    let end : at.card ≡ c.args.header.cards = omega arith in
    rw end at at.invariant
