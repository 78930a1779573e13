-- A recovery reads nothing past a directory's cards and pages, and keeps what stands there.
use Rattle.std.specs.Prelude.{ℕ, ◌≡◌, List}
use Rattle.laws.proofs.Prelude.{refl, ap}
use Rattle.directory.specs.declared.Directory.{Directory}
use Rattle.directory.specs.NewHome.{HomeRule}
use Rattle.area.specs.Prelude.{zeros, desk_size, Release}
use Rattle.protocol.specs.Recovery.{awaited_card, recovery_checks, recovery_by, failed_release}
use Rattle.protocol.specs.PastLimits.{below_limits}
use Rattle.protocol.proofs.checks.Outcome.{Passed, SameChecks, none, more}
use Rattle.protocol.proofs.checks.ValidDirectory.{valid_directory}
use Rattle.protocol.proofs.past_limits.Changes.{RuleBelow, recovered_same, recovered_kept}
use Rattle.protocol.proofs.past_limits.Checks.{fitting_then}
use Rattle.protocol.proofs.past_limits.Call.{CallBelow, below_by_checks}
use Rattle.protocol.proofs.past_limits.RecoveredMemory.{release_below, recovered_below}

module _ (rule : HomeRule) (rule-below : RuleBelow rule) (d : Directory) (m : List ℕ) where
  checks_below : SameChecks (recovery_checks (below_limits d) m) (recovery_checks d m)
  checks_below = fitting_then d m (more refl (λ _. none))

  abbrev f : ℕ
  f = awaited_card d.status

  same_release : Passed (recovery_checks d m) → failed_release (below_limits d) f m ≡ failed_release d f m
  same_release p = release_below rule rule-below d (valid_directory d m p.1.0) f m

  pub recovery_below : CallBelow d (recovery_by rule (below_limits d) m) (recovery_by rule d m)
  unfolding recovery_by
  recovery_below =
      below_by_checks d m _ _ (zeros desk_size) checks_below refl refl refl
      (λ p. ap (λ (r : Release). r.number) (same_release p))
      (λ p.
      record {
        directory = recovered_same rule rule-below f d;
        memory = recovered_below rule rule-below d (valid_directory d m p.1.0) f m;
        words = ap (λ (r : Release). r.desk) (same_release p);
        kept = recovered_kept rule rule-below f d;
      })
