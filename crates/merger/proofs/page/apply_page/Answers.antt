-- `page::apply_page` meets its contract. The loop's invariant: the runs before an index are applied to the page, and those
-- that are left stand from there on.
use Rattle.std.proofs.Common.{rules, arith, refl}
use Rattle.merger.proofs.page.Applying.{page_inside, none_past, none_applied, runs_start, run_at, run_applied, all_past, all_applied}
use Rattle.merger.proofs.page.apply_page.Goals as goal

pub bounds-list-index : goal.bounds-list-index
bounds-list-index c = page_inside c.requires.by_index.1.1

pub offset_bounds-list-index : goal.offset_bounds-list-index
offset_bounds-list-index c = let inside = page_inside c.requires.by_index.1.1 in search rules

pub returns-then-list-index : goal.returns-then-list-index
returns-then-list-index c =
    let other = c.if-list-index.true in
    record {
      past = λ own priced there. none_past there other;
      applied = λ own priced there. none_applied there c.args.marks c.args.prices.now other;
    }

pub loop-at-init : goal.loop-at-init
loop-at-init c =
    let is = c.if-list-index.false in (
      run_at (runs_start c.requires.by_index.1.1 c.args.marks c.args.prices.now is (omega arith)),
      λ own priced there. runs_start there c.args.marks c.args.prices.now is (omega arith),
    )

pub loop-at-preserved : goal.loop-at-preserved
loop-at-preserved c =
    let applied = c.loop-at.invariant.1 in
    let two = c.loop-at-test.true in
    let ones = c.run_marks-marked.ensures in
    let stored = c.store_run_in.ensures in (
      run_at (run_applied (applied _ _ c.requires.by_index.1.1) two _ _ _ ones refl stored),
      λ own priced there. run_applied (applied own priced there) two _ _ _ ones refl stored,
    )

pub returns : goal.returns
returns c =
    let applied = c.loop-at.invariant.1 in
    let other = c.loop-at-test.false in
    record {
      past = λ own priced there. all_past (applied own priced there) other;
      applied = λ own priced there. all_applied (applied own priced there) other;
    }
