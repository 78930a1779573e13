-- `Prices::next` meets its contract. The loop's invariant: the words that were passed are no prices.
use Prim.Native.Nat.{◌-◌}
use mathlib.Core.Path.{◌≡◌}
use lib.ListN.{length}
use Rattle.reader.specs.Left.{left}
use Rattle.reader.proofs.walk.PricesIterator.next.Given as goal

abbrev pub invariant-loop-self : goal.invariant-loop-self
invariant-loop-self l = left l.self ≡ left l.fn.self

abbrev pub decreases-loop-self : goal.decreases-loop-self
decreases-loop-self l = length l.self.list.now - l.self.at.index
