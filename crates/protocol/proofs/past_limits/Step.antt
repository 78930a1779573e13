-- A step reads nothing past a directory's cards and pages.
use Rattle.std.specs.Prelude.{ℕ, ◌≡◌, List, [], Bool, not}
use Rattle.laws.proofs.Prelude.{refl, ap}
use Rattle.answer.specs.Outcome.{no_open_release}
use Rattle.directory.specs.declared.Directory.{Directory}
use Rattle.directory.specs.Directory.{backup_of}
use Rattle.directory.proofs.Live.{next_live_below}
use Rattle.protocol.specs.Release.{size_of, step_memory}
use Rattle.protocol.specs.Checks.{check}
use Rattle.protocol.specs.Step.{step_checks, step}
use Rattle.protocol.specs.PastLimits.{below_limits}
use Rattle.protocol.proofs.checks.Outcome.{SameChecks, none, more}
use Rattle.protocol.proofs.checks.ValidDirectory.{ValidDirectory, valid_directory}
use Rattle.protocol.proofs.past_limits.Directory.{open_below, next_below}
use Rattle.protocol.proofs.past_limits.Checks.{running_then, live_then}
use Rattle.protocol.proofs.past_limits.Writes.{step_memory_below}
use Rattle.protocol.proofs.past_limits.Call.{CallBelow, below_by_checks, same_directory}

module _ (d : Directory) (m : List ℕ) (c : ℕ) where
  checks_below : SameChecks (step_checks (below_limits d) m c) (step_checks d m c)
  checks_below =
      running_then d m
      (live_then d m c (λ real.
      more (ap (λ (taken : Bool). check (not taken) no_open_release) (open_below d (size_of d) m c real)) (λ _. none)))

  memory_below : ValidDirectory d
      → step_memory (below_limits d) (backup_of (below_limits d) c) m c ≡ step_memory d (backup_of d c) m c
  memory_below fit =
      let other = fit.beside c in
      rw (next_below d c)
      (step_memory_below d fit (backup_of d c)
      (next_live_below d.live d.cards c other.card other.below other.live) m c)

  pub step_below : CallBelow d (step (below_limits d) m c) (step d m c)
  unfolding step
  step_below =
      below_by_checks d m _ _ [] checks_below refl refl refl (λ _. refl)
      (λ p. same_directory refl refl (memory_below (valid_directory d m p.1.0)) refl)
