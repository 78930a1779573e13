-- Rests on the laws of a turn: the search from here on finds what the whole search finds.
use mathlib.Core.Path.{◌≡◌}
use Rattle.directory.specs.Live.{first_live}
use Rattle.directory.proofs.first_live.Given as goal

abbrev pub invariant-loop-card : goal.invariant-loop-card
invariant-loop-card l = first_live l.marks l.card l.cards ≡ first_live l.marks l.from l.cards
