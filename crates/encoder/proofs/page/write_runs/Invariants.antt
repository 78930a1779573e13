-- `page::write_runs` meets its contract. The loop's invariant: the runs that are left, stored from here on, give the
-- list with all runs of the page.
use Prim.Native.Nat.{◌-◌}
use Rattle.encoder.proofs.Writing.{RunsLeft}
use Rattle.encoder.proofs.page.write_runs.Given as goal

abbrev pub invariant-loop-left : goal.invariant-loop-left
invariant-loop-left l = RunsLeft l.marks l.prices l.initial.list l.start l.list l.at l.word l.left

abbrev pub decreases-loop-left : goal.decreases-loop-left
decreases-loop-left l = 32 - l.word
