-- An accepted formatting is within its limits, and leaves the formatted directory and zeros.
use Rattle.std.specs.Prelude.{ℕ, ◌≡◌, List, [], ◌∷◌, true, length}
use Rattle.laws.proofs.Prelude.{refl}
use Rattle.answer.specs.Outcome.{limits}
use Rattle.directory.specs.declared.Directory.{Directory}
use Rattle.directory.specs.Directory.{formatted_directory, empty_directory}
use Rattle.area.specs.Prelude.{zeros}
use Rattle.protocol.specs.Checks.{check, outside_limits}
use Rattle.protocol.specs.Result.{accepted}
use Rattle.protocol.specs.Formatting.{formatting}
use Rattle.protocol.proofs.checks.Limits.{Within, within_limits}
use Rattle.protocol.proofs.checks.Outcome.{by_passed}

pub formatting-accepted : (P : Directory → List ℕ → Type 0) (m : List ℕ) (cards pages : ℕ)
    → (Within (length m) cards pages → P (formatted_directory cards pages) (zeros (length m)))
    → accepted (formatting m cards pages).outcome ≡ true
    → P (formatting m cards pages).directory (formatting m cards pages).memory
unfolding formatting
formatting-accepted P m cards pages good =
    by_passed (λ result. P result.directory result.memory)
    (check (outside_limits (length m) cards pages) limits ∷ []) 0 _ empty_directory m [] refl refl
    (λ passed. good (within_limits (length m) cards pages passed.0))
