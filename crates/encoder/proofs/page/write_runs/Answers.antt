-- `page::write_runs` meets its contract. The loop's invariant: the runs that are left, stored from here on, give the
-- list with all runs of the page.
use native.Mathlib.Omega.{arith}
use borrow.Author.Rules.{rules}
use lib.ListN.{length-set, length-take, length-drop}
use Rattle.encoder.proofs.Writing.{runs_start, runs_end, run_on_page, run_in_list, run_written}
use Rattle.encoder.proofs.page.write_runs.Goals as goal

pub loop-left-init : goal.loop-left-init
loop-left-init c = runs_start c.args.start (search rules) (search rules) c.requires.by_index

-- the run that is found stands on the page, and there is room for it in the list
pub run_word-requires : goal.run_word-requires
run_word-requires c =
    omega (arith, run_on_page c.loop-left.invariant c.first_run-run.ensures)

pub bounds-list-at : goal.bounds-list-at
bounds-list-at c =
    omega (arith, run_in_list c.loop-left.invariant c.first_run-run.ensures)

pub slice_bounds-store_prices-end : goal.slice_bounds-store_prices-end
slice_bounds-store_prices-end c =
    omega (arith, run_on_page c.loop-left.invariant c.first_run-run.ensures)

pub store_prices-requires : goal.store_prices-requires
store_prices-requires c =
    simp (length-set, length-take, length-drop)
    (omega (arith, run_in_list c.loop-left.invariant c.first_run-run.ensures))

pub loop-left-preserved : goal.loop-left-preserved
loop-left-preserved c =
    run_written c.loop-left.invariant c.first_run-run.ensures c.run_word.ensures
    c.store_prices.ensures c.marks_behind-left.ensures

pub returns : goal.returns
returns c =
    let ends = runs_end c.loop-left.invariant c.loop-left-test.false in
    record { stopped = λ page. (ends page).0; written = λ page. (ends page).1 }
