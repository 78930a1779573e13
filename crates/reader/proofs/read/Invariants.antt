-- `reader::read` meets its contract. The loop's invariant: the words that are left, read from here, give the verdict
-- on the whole list.
use Prim.Native.Nat.{◌≤◌, ◌-◌, min}
use mathlib.Core.Path.{◌≡◌}
use lib.ListN.{length, drop}
use Rattle.diff.specs.Reading.{read_from, read_diff}
use Rattle.reader.proofs.Keeping.{Idle}
use Rattle.reader.proofs.read.Given as goal

abbrev pub invariant-loop-index : goal.invariant-loop-index
invariant-loop-index l = (l.words ≡ min (length l.list) 512) × (l.index ≤ l.words) × Idle l.s × (l.s.prices ≤ l.index)
    × (read_from l.pages (drop l.index l.list) l.index l.s ≡ read_diff l.pages l.list)

abbrev pub decreases-loop-index : goal.decreases-loop-index
decreases-loop-index l = l.words - l.index
