-- Formatting (document 01, "Cards, pages, memory": "Formatting zeroes the memory"; refusal 1).
-- Assumes nothing: these are definitions.
use Rattle.std.specs.Prelude.{ℕ, List, [], ◌∷◌, length}
use Rattle.answer.specs.declared.Outcome.{Outcome}
use Rattle.answer.specs.Outcome.{limits}
use Rattle.directory.specs.Directory.{formatted_directory, empty_directory}
use Rattle.area.specs.Prelude.{zeros}
use Rattle.protocol.specs.Checks.{check, first_refusal, outside_limits}
use Rattle.protocol.specs.Result.{Result, result_of}

-- "Refused formatting gives one that is running, with 0 cards, 0 pages, all dead, homes 0."
unfoldable pub formatting : List ℕ → ℕ → ℕ → Result
formatting m cards pages =
    let o : Outcome = first_refusal (check (outside_limits (length m) cards pages) limits ∷ []) 0 in
    result_of o
    (record { outcome = o; directory = formatted_directory cards pages; memory = zeros (length m); words = [] })
    empty_directory m []
