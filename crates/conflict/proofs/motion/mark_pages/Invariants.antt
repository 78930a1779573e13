-- The loop's invariant: the pages of the prices so far are marked.
use mathlib.Core.Path.{◌≡◌}
use lib.ListN.{length}
use Rattle.conflict.specs.Marks.{marked}
use Rattle.conflict.specs.Motion.{page_of}
use Rattle.conflict.proofs.motion.mark_pages.Given as goal

abbrev pub invariant-loop-price : goal.invariant-loop-price
invariant-loop-price l = record {
  counted : l.prices ≡ length l.yielded;
  made : l.marks ≡ marked page_of l.yielded l.fn.marks;
}
