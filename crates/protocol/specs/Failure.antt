-- The failure of a card (document 01, "Failure, recovery, join": "A failure marks the card dead"; refusals 1, 2,
-- 11, 3, 13).
-- Assumes nothing: these are definitions.
use Rattle.std.specs.Prelude.{ℕ, List, [], ◌∷◌, ◌++◌, leb}
use Rattle.laws.specs.Search.{count_below}
use Rattle.answer.specs.declared.Outcome.{Outcome}
use Rattle.answer.specs.Outcome.{two_live}
use Rattle.directory.specs.declared.Directory.{Directory}
use Rattle.directory.specs.declared.Status.TheVariants.{Awaiting}
use Rattle.directory.specs.Directory.{is_live, marked_dead, with_status}
use Rattle.protocol.specs.Checks.{Check, check, first_refusal, live_card_checks}
use Rattle.protocol.specs.Result.{Result, result_of}

abbrev pub failure_checks : Directory → List ℕ → ℕ → List Check
failure_checks d m c = live_card_checks d m c ++ check (leb (count_below (is_live d) d.cards) 2) two_live ∷ []

-- the card is dead, and its recovery awaited
abbrev pub failed_directory : Directory → ℕ → Directory
failed_directory d c = with_status (marked_dead d c) (Awaiting c)

unfoldable pub failure : Directory → List ℕ → ℕ → Result
failure d m c =
    let o : Outcome = first_refusal (failure_checks d m c) 0 in
    result_of o (record { outcome = o; directory = failed_directory d c; memory = m; words = [] }) d m []
