-- Several steps of a release in one call. Document 01 does not name it: it is the single step, made again and again.
-- Assumes nothing: these are definitions.
use Rattle.std.specs.Prelude.{ℕ, zero, suc, ◌+◌, List, cond, leb}
use Rattle.answer.specs.declared.Outcome.{Outcome}
use Rattle.answer.specs.Outcome.{given, refused, no_open_release}
use Rattle.directory.specs.declared.Directory.{Directory}
use Rattle.protocol.specs.Result.{Result, accepted}
use Rattle.protocol.specs.Step.{step}

-- how many steps were made, and the refusal that stopped them, or their number once more
pub record Stepped : Type 0 where
  pub made : ℕ
  pub outcome : Outcome
  pub directory : Directory
  pub memory : List ℕ

abbrev pub stepped_to : ℕ → Outcome → Directory → List ℕ → Stepped
stepped_to made o d m = record { made = made; outcome = o; directory = d; memory = m }

-- so many still to make, so many made
unfoldable pub steps_from : ℕ → ℕ → ℕ → Directory → List ℕ → Stepped
steps_from card zero made d m = stepped_to made (given made) d m
steps_from card (suc left) made d m =
    let r : Result = step d m card in
    cond (accepted r.outcome) (steps_from card left (made + 1) r.directory r.memory)
    (stepped_to made r.outcome r.directory r.memory)

-- steps until the count or a refusal
abbrev pub steps : Directory → List ℕ → ℕ → ℕ → Stepped
steps d m card count = steps_from card count 0 d m

-- what the steps of an open release come to, once so many are made: all asked for, or the close among them
abbrev pub stopped_at : ℕ → ℕ → Outcome
stopped_at count made = cond (leb count made) (given made) (refused no_open_release)
