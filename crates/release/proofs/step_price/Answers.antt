-- Rests on `home_in`: both homes of a page are cards; and on the mark of the home.
use mathlib.Core.Path.{refl, sym, ◌∙◌}
use native.Mathlib.Omega.{arith}
use Rattle.release.specs.Stepping.{viewed}
use Rattle.release.proofs.Stores.{home_in, word_made, write_dropped}
use Rattle.release.proofs.step_price.Goals as goal

pub store_price-requires : goal.store_price-requires
store_price-requires c =
    let pre = c.requires in
    let home = home_in (viewed c.args.directory) pre.homes_of c.args.store.at _ pre.page_lt_pages.0 in
    rw (c.area_size-size.ensures, c.home_at-home.ensures)
    record { area_in = home.area; page_bound = (omega arith, omega arith, omega arith) }

pub returns-then-header-home : goal.returns-then-header-home
returns-then-header-home c =
    let live = rw c.home_at-home.ensures at c.if-header-home.true in
    (rw (c.area_size-size.ensures, c.home_at-home.ensures) at c.store_price.ensures)
    ∙ sym (word_made _ _ _ _ _ refl live)

pub returns-else-header-home : goal.returns-else-header-home
returns-else-header-home c =
    sym (write_dropped _ _ _ _ (rw c.home_at-home.ensures at c.if-header-home.false))
