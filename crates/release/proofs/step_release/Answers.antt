-- Rests on `price_due_lem`: the price found by its number is the one that the step stores, on `step_counted` and on
-- `step-closed`.
use Prim.Native.Nat.{◌/◌}
use mathlib.Core.Path.{sym, ◌∙◌}
use native.Mathlib.Omega.{arith}
use Rattle.directory.specs.Directory.{directory_by}
use Rattle.release.proofs.Halves.{half_bounds}
use Rattle.release.proofs.Prices.{price_at_lem}
use Rattle.release.proofs.Stores.{price_due_lem, step_counted, step-closed}
use Rattle.release.proofs.step_release.Goals as goal

pub step_price-requires-clause-page_lt_pages : goal.step_price-requires-clause-page_lt_pages
step_price-requires-clause-page_lt_pages c =
    let a = c.args in
    let store = c.in-StorePrice.store in
    let next = c.in-StorePrice.ensures in
    let price =
    price_at_lem a.header.pages a.memory.now a.card (store.at / 2) c.find_price-p.result
    (omega (arith, next.within, c.count_prices-k.ensures.prices)) c.find_price-p.ensures
    in
    (price.is_on_page, price.in_page, (half_bounds next.from).1)

pub returns-in-StorePrice : goal.returns-in-StorePrice
returns-in-StorePrice c =
    let a = c.args in
    let m = c.args.memory.now in
    let area = c.requires.card_in.area in
    let size = c.area_size-size.ensures in
    let counted = c.count_prices-k.ensures in
    let steps = c.steps_made-steps.result in
    let made = rw size at c.steps_made-steps.ensures in
    let store = c.in-StorePrice.store in
    let next = c.in-StorePrice.ensures in
    let p = c.find_price-p.result in
    let price =
    price_at_lem a.header.pages m a.card (store.at / 2) p (omega (arith, next.within, counted.prices))
    c.find_price-p.ensures
    in
    let d = directory_by a.header a.primary.now a.secondary.now in
    let due =
    price_due_lem d a.backup m a.card steps p store.at {first = next.first} {half = store.half} area counted.prices
    next.from next.is next.within price
    in
    let first = (half_bounds next.from).0 in
    step_counted d a.backup m a.card steps area made (omega (arith, next.is, next.within, counted.prices, first)) due
    (rw (size, c.step_price.ensures) at c.count_steps.ensures)

pub returns-in-Close : goal.returns-in-Close
returns-in-Close c =
    let a = c.args in
    let size = c.area_size-size.ensures in
    let made = rw size at c.steps_made-steps.ensures in
    (rw size at c.close_release.ensures)
    ∙ sym
    (step-closed (directory_by a.header a.primary.now a.secondary.now) a.backup a.memory.now a.card c.steps_made-steps.result c.requires.card_in.area made
    (omega (arith, c.in-Close.ensures, c.count_prices-k.ensures.prices)))
