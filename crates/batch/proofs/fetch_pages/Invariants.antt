-- The loop's invariant: the pages passed are fetched.
use mathlib.Core.Path.{◌≡◌}
use lib.ListN.{length}
use Rattle.laws.specs.Search.{in_turn}
use Rattle.directory.specs.Lent.{lent}
use Rattle.batch.specs.FetchAll.{fetched_pages}
use Rattle.batch.specs.Showing.{show_next}
use Rattle.batch.proofs.fetch_pages.Given as goal

abbrev pub invariant-loop-page : goal.invariant-loop-page
invariant-loop-page l = (length l.buffer ≡ length l.initial.buffer)
    × (fetched_pages l.buffer l.shown
    ≡ in_turn (show_next l.moving (lent l.directory) l.memory) l.page (fetched_pages l.initial.buffer l.initial.shown))
