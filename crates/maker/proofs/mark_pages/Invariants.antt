-- `maker::mark_pages` meets its contract. The loop's invariant: the marks of the pages before `page` are stored.
use Rattle.std.specs.Prelude.{◌≡◌, take}
use Rattle.diff.specs.Marks.{change_marks}
use Rattle.maker.proofs.mark_pages.Given as goal

abbrev pub invariant-loop-page : goal.invariant-loop-page
invariant-loop-page l = take l.page l.marks ≡ take l.page (change_marks l.working l.twins)
