-- Rests on its tests, which are the definition's in the same order.
use mathlib.Core.Path.{sym, ◌∙◌}
use native.Mathlib.Omega.{arith}
use borrow.Author.Tests.{lt-ltb, le-ltb, le-leb, lt-leb}
use Rattle.memory.proofs.Index.{area_in}
use Rattle.area.specs.Releases.{own_release}
use Rattle.checks.proofs.Order.{first_refuses, first_passes}
use Rattle.refusals.proofs.check_number.Goals as goal

pub returns-then-is_open_on : goal.returns-then-is_open_on
returns-then-is_open_on c =
    sym (first_refuses _ _ _ _ _ (sym c.is_open_on.ensures ∙ c.if-is_open_on.true))

pub load_number-stamp-requires : goal.load_number-stamp-requires
load_number-stamp-requires c =
    rw c.area_size-size.ensures record {
      area_in = area_in _ c.requires.card_lt_cards c.requires.memory_of.2;
      number_size_bound = omega arith;
    }

pub returns-then-number-stamp : goal.returns-then-number-stamp
unfolding own_release
returns-then-number-stamp c =
    let closed = sym c.is_open_on.ensures ∙ c.if-is_open_on.false in
    let stamp = rw c.area_size-size.ensures at c.load_number-stamp.ensures in
    rw stamp
    (sym (first_passes _ _ _ _ _ closed
    ∙ first_refuses _ _ _ _ _ (rw stamp at (le-leb _ _ c.if-number-stamp.true))))

pub returns-then-stamp-number : goal.returns-then-stamp-number
unfolding own_release
returns-then-stamp-number c =
    let closed = sym c.is_open_on.ensures ∙ c.if-is_open_on.false in
    let stamp = rw c.area_size-size.ensures at c.load_number-stamp.ensures in
    sym (first_passes _ _ _ _ _ closed
    ∙ first_passes _ _ _ _ _ (rw stamp at (lt-leb _ _ c.if-number-stamp.false))
    ∙ first_refuses _ _ _ _ _ (rw stamp at (lt-ltb _ _ c.if-stamp-number.true)))

pub returns : goal.returns
unfolding own_release
returns c =
    let closed = sym c.is_open_on.ensures ∙ c.if-is_open_on.false in
    let stamp = rw c.area_size-size.ensures at c.load_number-stamp.ensures in
    c.check_list.ensures
    ∙ sym (first_passes _ _ _ _ _ closed
    ∙ first_passes _ _ _ _ _ (rw stamp at (lt-leb _ _ c.if-number-stamp.false))
    ∙ first_passes _ _ _ _ _ (rw stamp at (le-ltb _ _ c.if-stamp-number.false)))
