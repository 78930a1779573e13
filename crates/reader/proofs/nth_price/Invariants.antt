-- `reader::nth_price` meets its contract. The loop's invariant: the price that is asked for is the one numbered
-- `left` of those that are left.
use Prim.Native.Nat.{◌-◌}
use mathlib.Core.Path.{◌≡◌}
use lib.ListN.{length}
use Rattle.diff.specs.Prices.{prices_of}
use Rattle.std.specs.Prelude.{slice_get}
use Rattle.reader.specs.Walking.{Reached, prices_left}
use Rattle.reader.proofs.nth_price.Given as goal

abbrev pub invariant-loop-at : goal.invariant-loop-at
invariant-loop-at l = Reached l.pages (length l.list) l.at
    × (slice_get (prices_left l.pages l.list l.at) l.left ≡ slice_get (prices_of l.pages l.list) l.n)

abbrev pub decreases-loop-at : goal.decreases-loop-at
decreases-loop-at l = length l.list - l.at.index
