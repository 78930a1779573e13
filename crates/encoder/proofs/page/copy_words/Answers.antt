-- Rests on `sets-take_more`, the law of a turn, and on `sets_whole` at the end.
use mathlib.Core.Path.{refl, ◌∙◌}
use native.Mathlib.Nat.{zero-add}
use native.Mathlib.Omega.{arith}
use lib.ListN.{length-set}
use lib.Seq.{take_all}
use Rattle.laws.proofs.Lists.{sets-take_more, sets_whole}
use Rattle.encoder.proofs.page.copy_words.Goals as goal

pub loop-i-init : goal.loop-i-init
loop-i-init c = (refl, refl)

pub loop-i-preserved : goal.loop-i-preserved
loop-i-preserved c =
    let a = c.args in
    let l = c.loop-i in
    let stored = rw zero-add at (sets-take_more a.from.now a.to.now 0 l.i (omega arith)) in
    (simp length-set l.invariant.0, rw l.invariant.1 stored)

pub returns : goal.returns
returns c =
    let a = c.args in
    let l = c.loop-i in
    let all = take_all l.i a.from.now (omega arith) in
    (rw all at l.invariant.1) ∙ sets_whole a.from.now a.to.now c.requires
