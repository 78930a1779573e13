-- Rests on `StepsMade`: what is left of the steps gives what all of them give; the list stays, and so does its table.
use mathlib.Core.Path.{sym, ◌∙◌}
use native.Mathlib.Omega.{arith}
use Rattle.release.specs.Stepping.{viewed}
use Rattle.release.proofs.Callers.{card_kept}
use Rattle.release.proofs.Stores.{step-closed}
use Rattle.release.proofs.Left.{steps-one, steps_run, steps_all}
use Rattle.release.proofs.steps.make_listed.Goals as goal

pub loop-left-preserved-in-StorePrice : goal.loop-left-preserved-in-StorePrice
loop-left-preserved-in-StorePrice c =
    let card = c.requires.card_in in
    rw (c.store_prices.ensures c.args.release.backup)
    (steps_run _ card.eight card.area c.loop-left.invariant (omega arith))

pub loop-left-preserved-in-StoreRecord : goal.loop-left-preserved-in-StoreRecord
loop-left-preserved-in-StoreRecord c =
    let card = c.requires.card_in in
    steps-one card.eight card.area c.loop-left.invariant c.loop-left-test.true (c.count_record.ensures _ _)

pub loop-left-preserved : goal.loop-left-preserved
loop-left-preserved c =
    let a = c.args in
    let card = c.requires.card_in in
    let far = c.loop-left.invariant in
    let here = card_kept card far.same in
    let size = c.area_size-size.ensures in
    let made = rw size at c.steps_made-steps.ensures in
    let some = far.some c.loop-left-test.true in
    let closed = step-closed (viewed a.directory) a.release.backup c.loop-left.memory a.release.card c.steps_made-steps.result
    here.area made (omega (arith, c.in-Close.ensures, some.prices)) in
    steps-one card.eight card.area far c.loop-left-test.true ((rw size at c.close_release.ensures) ∙ sym closed)

pub returns : goal.returns
returns c = steps_all c.loop-left.invariant c.loop-left-test.false
