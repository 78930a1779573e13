-- `encoder::write_diff` meets its contract. The loop's invariant: the words of the pages from `page` on, stored from here
-- on, give the list with the words of all pages; while some of them are left, there is a page.
use Rattle.std.specs.Prelude.{ℕ, ◌+◌, ◌-◌, ◌*◌, ◌≡◌}
use Rattle.std.proofs.Common.{arith, refl}
use Rattle.std.proofs.lemmas.List.{nil_from_length}
use Rattle.laws.proofs.Lists.{sets-append}
use Rattle.encoder.proofs.Pages.{body_on, page_left, body_on_next, length-next, length-made, end_stored}
use Rattle.encoder.proofs.write_diff.Goals as goal

-- the words lent to a page are its prices
lent : (first : ℕ) → first + 32 - first ≡ 32
lent first = omega arith

pub overflow_sub-end : goal.overflow_sub-end
overflow_sub-end c = grind (arith, length-made)

pub loop-at-init : goal.loop-at-init
loop-at-init c =
    let prices = c.args.prices.now in
    let marks = c.args.marks.now in
    let made = length-made prices marks c.requires.prices_len in
    (λ more. page_left prices marks 0 (omega arith), (omega arith, refl))

pub write_page-at-requires-clause-prices_in_bounds : goal.write_page-at-requires-clause-prices_in_bounds
write_page-at-requires-clause-prices_in_bounds c =
    rw (lent (32 * c.loop-at.page)) (grind (arith, length-next))

pub loop-at-preserved : goal.loop-at-preserved
loop-at-preserved c =
    let prices = c.args.prices.now in
    let marks = c.args.marks.now in
    let page = c.loop-at.page in
    let within = c.loop-at.invariant.0 c.loop-at-test.true in
    let parts = length-next prices marks page within in
    let stopped = rw (lent (32 * page)) at c.write_page-at.ensures.stopped in
    let written = rw (lent (32 * page)) at c.write_page-at.ensures.written in (
      λ more. page_left prices marks (page + 1) (omega arith),
      (
        omega arith,
        rw (written, stopped) (rw (body_on_next prices marks page within, sets-append) at c.loop-at.invariant.1.1),
      ),
    )

pub bounds-list-end : goal.bounds-list-end
bounds-list-end c = grind (arith, length-made)

pub returns : goal.returns
returns c =
    let prices = c.args.prices.now in
    let marks = c.args.marks.now in
    let end : ℕ = c.args.words - 1 in
    let none = nil_from_length (body_on prices marks c.loop-at.page) (omega arith) in
    end_stored prices marks c.args.list.now c.loop-at.list end c.requires.prices_len (grind (arith, length-made))
    (rw none at c.loop-at.invariant.1.1)
