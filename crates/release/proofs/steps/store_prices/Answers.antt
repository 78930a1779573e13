-- Rests on `PricesMade`: the memory with its count is the one that single steps leave; the count is written at the end.
use Prim.Native.Nat.{◌+◌, ◌/◌}
use mathlib.Core.Path.{refl}
use native.Mathlib.Omega.{arith}
use lib.ListN.{get_or}
use Rattle.release.specs.Stepping.{viewed}
use Rattle.protocol.proofs.release.Writes.{no_price}
use Rattle.reader.specs.Labels.{labeled, unlabeled}
use Rattle.release.proofs.Halves.{half_bounds}
use Rattle.release.proofs.Prices.{price_at_lem, entry_listed}
use Rattle.release.proofs.Counting.{prices_none, prices_one, prices_all}
use Rattle.release.proofs.steps.store_prices.Goals as goal

pub loop-made-init : goal.loop-made-init
loop-made-init c =
    let run = c.requires.run_next in
    let first = (half_bounds run.next.from).0 in
    prices_none record { prices = refl; few = run.few; counts = omega (arith, run.next.is, run.within, first) }
    (rw c.area_size-size.ensures at c.steps_made-steps.ensures)

pub step_price-requires-clause-page_lt_pages : goal.step_price-requires-clause-page_lt_pages
step_price-requires-clause-page_lt_pages c =
    let a = c.args in
    let run = c.requires.run_next in
    let n = (a.first.at + c.loop-made.made) / 2 in
    let e = labeled no_price in
    let price =
    price_at_lem a.directory.header.pages a.memory.now a.card n (unlabeled (get_or a.prices.now n e))
    (omega (arith, run.within, c.loop-made-test.true))
    (entry_listed _ c.requires.listed n e)
    in
    rw c.unlabeled-p.ensures (price.is_on_page, price.in_page, (half_bounds run.next.from).1)

pub loop-made-preserved : goal.loop-made-preserved
loop-made-preserved c =
    let a = c.args in
    let card = c.requires.card_in in
    let run = c.requires.run_next in
    let steps = rw c.area_size-size.ensures at c.steps_made-steps.ensures in
    let at = a.first.at + c.loop-made.made in
    let e = labeled no_price in
    let p = unlabeled (get_or a.prices.now (at / 2) e) in
    prices_one (viewed a.directory) {first = run.next.first} {half = a.first.half} p at card.eight card.area
    c.loop-made.invariant c.loop-made-test.true run.next.from (omega (arith, run.next.is, steps))
    (omega (arith, run.within, c.loop-made-test.true))
    (entry_listed _ c.requires.listed (at / 2) e)
    (rw c.unlabeled-p.ensures at c.step_price.ensures)

pub returns : goal.returns
returns c backup =
    prices_all c.loop-made.invariant c.loop-made-test.false
    (rw c.area_size-size.ensures at c.count_steps.ensures) backup
