-- A desk question (document 01, "Failure, recovery, join": "A desk question reads the own desk of a live card, or a
-- dead card's record"; refusals 1, 2, 11, 3).
-- Assumes nothing: these are definitions.
use Rattle.std.specs.Prelude.{ℕ, List, cond}
use Rattle.answer.specs.declared.Outcome.{Outcome}
use Rattle.directory.specs.declared.Directory.{Directory}
use Rattle.directory.specs.Directory.{is_live, next_live_of}
use Rattle.area.specs.Prelude.{zeros, desk_size, own_release, recorded_release}
use Rattle.protocol.specs.Release.{size_of}
use Rattle.protocol.specs.Checks.{Check, first_refusal, card_checks}
use Rattle.protocol.specs.Result.{Result, result_of}

abbrev pub desk_checks : Directory → List ℕ → ℕ → List Check
desk_checks d m c = card_checks d m c

-- "A dead card's record is the one on the next live after it."
unfoldable pub desk_of : Directory → List ℕ → ℕ → List ℕ
desk_of d m c =
    cond (is_live d c) (own_release (size_of d) m c).desk (recorded_release (size_of d) m (next_live_of d c) c).desk

unfoldable pub desk_question : Directory → List ℕ → ℕ → Result
desk_question d m c =
    let o : Outcome = first_refusal (desk_checks d m c) 0 in
    result_of o (record { outcome = o; directory = d; memory = m; words = desk_of d m c }) d m (zeros desk_size)
