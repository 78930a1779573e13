-- The calls of demand 3, and what each does: the definition that its contract cites. Whoever speaks of all calls finds
-- their definitions and their checks here.
-- Assumes nothing: these are definitions.
use Rattle.std.specs.Prelude.{ℕ, List}
use Rattle.directory.specs.declared.Directory.{Directory}
use Rattle.directory.specs.NewHome.{HomeRule, even_home}
use Rattle.area.specs.Prelude.{Release}
use Rattle.protocol.specs.Result.{Result}
unfoldable pub use Rattle.protocol.specs.Formatting.{formatting}
unfoldable pub use Rattle.protocol.specs.Opening.{opening, opening_checks}
unfoldable pub use Rattle.protocol.specs.Step.{step, step_checks}
unfoldable pub use Rattle.protocol.specs.Fetch.{fetch, page_checks, fetch_checks}
unfoldable pub use Rattle.protocol.specs.Failure.{failure, failure_checks}
unfoldable pub use Rattle.protocol.specs.Recovery.{recovery_by, recovery, recovery_checks}
unfoldable pub use Rattle.protocol.specs.Join.{join, join_checks}
unfoldable pub use Rattle.protocol.specs.DeskQuestion.{desk_question, desk_checks}

pub data Call : Type 0 where
  start_release : (card : ℕ) → Release → (list : List ℕ) → Call
  make_step : (card : ℕ) → Call
  fetch_page : (page : ℕ) → (buffer : List ℕ) → Call
  fail_card : (card : ℕ) → Call
  recover : Call
  join_card : (card : ℕ) → Call
  ask_desk : (card : ℕ) → Call

-- each call by its definition, with lost homes replaced by a rule
unfoldable pub perform_by : HomeRule → Call → Directory → List ℕ → Result
perform_by rule (start_release card r list) d m = opening d m card r list
perform_by rule (make_step card) d m = step d m card
perform_by rule (fetch_page page buffer) d m = fetch d m page buffer
perform_by rule (fail_card card) d m = failure d m card
perform_by rule recover d m = recovery_by rule d m
perform_by rule (join_card card) d m = join d m card
perform_by rule (ask_desk card) d m = desk_question d m card

-- each call by the definition that its contract cites
abbrev pub perform : Call → Directory → List ℕ → Result
perform call d m = perform_by even_home call d m
