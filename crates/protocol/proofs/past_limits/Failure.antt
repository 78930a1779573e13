-- A failure reads nothing past a directory's cards and pages, and keeps what stands there.
use Rattle.std.specs.Prelude.{ℕ, List, [], false, leb}
use Rattle.laws.proofs.Prelude.{refl, ap}
use Rattle.laws.proofs.Search.{count_agree}
use Rattle.answer.specs.Outcome.{two_live}
use Rattle.directory.specs.declared.Directory.{Directory}
use Rattle.directory.specs.declared.Status.TheVariants.{Awaiting}
use Rattle.protocol.specs.Checks.{check}
use Rattle.protocol.specs.Failure.{failure_checks, failure}
use Rattle.protocol.specs.PastLimits.{below_limits}
use Rattle.protocol.proofs.checks.ByCall.{live_card}
use Rattle.protocol.proofs.checks.Outcome.{more, none, SameChecks}
use Rattle.protocol.proofs.past_limits.Directory.{live_below}
use Rattle.protocol.proofs.past_limits.Changes.{status_kept, marked_same, marked_kept}
use Rattle.protocol.proofs.past_limits.Checks.{running_then, live_then}
use Rattle.protocol.proofs.past_limits.Call.{CallBelow, below_by_checks}

module _ (d : Directory) (m : List ℕ) (c : ℕ) where
  checks_below : SameChecks (failure_checks (below_limits d) m c) (failure_checks d m c)
  checks_below =
      running_then d m
      (live_then d m c (λ _.
      more (ap (λ (many : ℕ). check (leb many 2) two_live) (count_agree _ _ d.cards (live_below d))) (λ _. none)))

  pub failure_below : CallBelow d (failure (below_limits d) m c) (failure d m c)
  unfolding failure
  failure_below =
      below_by_checks d m _ _ [] checks_below refl refl refl (λ _. refl)
      (λ p.
      record {
        directory = marked_same d c false (Awaiting c);
        memory = refl;
        words = refl;
        kept = status_kept d _ (Awaiting c) (marked_kept d c false (live_card d c p.1.1.1.0).0);
      })
