-- What a call comes to and leaves.
-- Assumes nothing: these are definitions.
use Rattle.std.specs.Prelude.{ℕ, List, Bool, cond, eqb}
use Rattle.answer.specs.declared.Outcome.{Outcome}
use Rattle.directory.specs.declared.Directory.{Directory}

pub record Result : Type 0 where
  pub outcome : Outcome
  pub directory : Directory
  pub memory : List ℕ
  -- the page buffer or the desk words that it hands back, if it has any
  pub words : List ℕ

-- the call was accepted
abbrev pub accepted : Outcome → Bool
accepted o = eqb o.number 0

-- "A refusal changes no word of what was lent": what an accepted call leaves, or what was there before
abbrev pub result_of : Outcome → Result → Directory → List ℕ → List ℕ → Result
result_of o done d m words =
    cond (accepted o) done (record { outcome = o; directory = d; memory = m; words = words })
