-- The records of the cards passed are written where they are due.
use mathlib.Core.Path.{◌≡◌}
use Rattle.laws.specs.Search.{in_turn}
use Rattle.directory.specs.Directory.{backup_of}
use Rattle.area.specs.Record.{write_own_record}
use Rattle.protocol.specs.Release.{size_of}
use Rattle.recovery.specs.Rack.{backed_by}
use Rattle.recovery.proofs.records.write_own_records.Given as goal

abbrev pub invariant-loop-card : goal.invariant-loop-card
invariant-loop-card l =
    l.memory ≡ in_turn (write_own_record (size_of l.after) (backed_by l.live l.before l.backup) (backup_of l.after)) l.card l.initial.memory
