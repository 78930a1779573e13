-- One step of a release (document 01, "A release and its 4k + 11 steps"; refusals 1, 2, 11, 3, 16).
-- Assumes nothing: these are definitions.
use Rattle.std.specs.Prelude.{ℕ, List, [], ◌∷◌, ◌++◌, not}
use Rattle.answer.specs.declared.Outcome.{Outcome}
use Rattle.answer.specs.Outcome.{no_open_release}
use Rattle.directory.specs.declared.Directory.{Directory}
use Rattle.directory.specs.Directory.{backup_of}
use Rattle.area.specs.Prelude.{has_open_release}
use Rattle.protocol.specs.Release.{size_of, step_memory}
use Rattle.protocol.specs.Checks.{Check, check, first_refusal, live_card_checks}
use Rattle.protocol.specs.Result.{Result, result_of}

abbrev pub step_checks : Directory → List ℕ → ℕ → List Check
step_checks d m c = live_card_checks d m c ++ check (not (has_open_release d.live (size_of d) m c)) no_open_release ∷ []

unfoldable pub step : Directory → List ℕ → ℕ → Result
step d m c =
    let o : Outcome = first_refusal (step_checks d m c) 0 in
    result_of o (record { outcome = o; directory = d; memory = step_memory d (backup_of d c) m c; words = [] }) d m []
