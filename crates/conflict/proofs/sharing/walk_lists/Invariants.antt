-- Rests on `Passed` over the cards; over a card's list the prices that are left find what all of them find.
use Rattle.std.proofs.Common.{None, ◌≡◌}
use Rattle.laws.proofs.Search.{Passed}
use Rattle.protocol.specs.Release.{open_prices}
use Rattle.reader.specs.Left.{left}
use Rattle.conflict.specs.Sharing.{any_marked, marks_with}
use Rattle.conflict.proofs.sharing.walk_lists.Given as goal

abbrev pub invariant-loop-price : goal.invariant-loop-price
invariant-loop-price l = (l.found ≡ None)
    × (any_marked (left l.price-iterator) l.named ≡ any_marked (open_prices l.header.pages l.memory l.other) l.named)

abbrev pub invariant-cards : goal.invariant-cards
invariant-cards l = (l.found ≡ None)
    × Passed (marks_with l.header.live l.header.pages l.memory l.card l.named) l.header.cards l.other
