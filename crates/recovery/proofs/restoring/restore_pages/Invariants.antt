-- Both homes of the pages passed are restored.
use mathlib.Core.Path.{◌≡◌}
use Rattle.laws.specs.Search.{in_turn}
use Rattle.directory.specs.Lent.{lent}
use Rattle.protocol.specs.Recovery.{restore_page}
use Rattle.recovery.proofs.restoring.restore_pages.Given as goal

abbrev pub invariant-loop-page : goal.invariant-loop-page
invariant-loop-page l =
    l.memory ≡ in_turn (restore_page (lent l.directory) l.forward) l.page l.initial.memory
