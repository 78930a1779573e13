-- `reader::nth_price` meets its contract. The loop's invariant: the price that is asked for is the one numbered
-- `left` of those that are left.
use mathlib.Core.Path.{refl, sym, ◌∙◌}
use native.Mathlib.Omega.{arith}
use Rattle.reader.proofs.Walking.{left_first, run_reached, run_fewer}
use Rattle.reader.proofs.Runs.{nth_passed, nth_here, nth_end}
use Rattle.reader.proofs.nth_price.Goals as goal

pub loop-at-init : goal.loop-at-init
loop-at-init c = rw (c.first_word-at.ensures, left_first) (omega arith, refl)

pub nth_due-requires : goal.nth_due-requires
nth_due-requires c =
    let reached = c.loop-at.invariant.0 in
    record {
      well_formed = record { within = omega arith; one = omega arith; few = omega arith; named = omega arith };
      n_lt_due = (omega arith, omega arith);
    }

pub returns-then-left-due : goal.returns-then-left-due
returns-then-left-due c =
    let at = c.loop-at in
    let inside = c.loop-at-test.true in
    c.nth_due.ensures ∙ sym (nth_here _ _ at.at inside at.invariant.0 _ c.if-left-due.true) ∙ at.invariant.1

pub next_run-at-requires : goal.next_run-at-requires
next_run-at-requires c =
    let reached = c.loop-at.invariant.0 in
    record {
      well_formed = record { within = omega arith; one = omega arith; few = omega arith; named = omega arith };
      index_in_bounds = (omega arith, omega arith);
      prices_le_index = omega arith;
    }

pub loop-at-smaller : goal.loop-at-smaller
loop-at-smaller c =
    let at = c.loop-at in
    let list = c.args.list.now in
    rw c.next_run-at.ensures (run_fewer _ list at.at c.loop-at-test.true at.invariant.0)

pub loop-at-preserved : goal.loop-at-preserved
loop-at-preserved c =
    let at = c.loop-at in
    let inside = c.loop-at-test.true in
    rw c.next_run-at.ensures (
      run_reached _ _ at.at inside at.invariant.0,
      sym (nth_passed _ _ at.at inside at.invariant.0 _ c.if-left-due.false) ∙ at.invariant.1,
    )

pub returns : goal.returns
returns c =
    let at = c.loop-at in
    sym (nth_end _ _ at.at at.left c.loop-at-test.false) ∙ at.invariant.1
