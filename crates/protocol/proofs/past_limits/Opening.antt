-- Opening a release reads nothing past a directory's cards and pages.
use Rattle.std.specs.Prelude.{ℕ, ◌<◌, ◌≡◌, List, [], Bool}
use Rattle.laws.proofs.Prelude.{refl, ap}
use Rattle.answer.specs.Outcome.{release_open}
use Rattle.directory.specs.declared.Directory.{Directory}
use Rattle.area.specs.Prelude.{Release}
use Rattle.protocol.specs.Release.{size_of}
use Rattle.protocol.specs.Checks.{check}
use Rattle.protocol.specs.Opening.{shares_with, opening_checks, opening}
use Rattle.protocol.specs.PastLimits.{below_limits}
use Rattle.protocol.proofs.checks.Outcome.{SameChecks, none, more}
use Rattle.protocol.proofs.checks.Agree.{by_lowest}
use Rattle.protocol.proofs.past_limits.Directory.{marks_below, open_below}
use Rattle.protocol.proofs.past_limits.Checks.{running_then, live_then}
use Rattle.protocol.proofs.past_limits.Call.{CallBelow, below_by_checks, same_directory}

module _ (d : Directory) (m : List ℕ) (c : ℕ) where
  shares_below : (list : List ℕ) (x : ℕ) → x < d.cards
      → shares_with (marks_below d) d.pages m c list x ≡ shares_with d.live d.pages m c list x
  unfolding shares_with
  shares_below list x real = rw (open_below d (size_of d) m x real)

  checks_below : (number : ℕ) (list : List ℕ)
      → SameChecks (opening_checks (below_limits d) m c number list) (opening_checks d m c number list)
  checks_below number list =
      running_then d m
      (live_then d m c (λ real.
      more (ap (λ (taken : Bool). check taken release_open) (open_below d (size_of d) m c real)) (λ _.
      more refl (λ _. more refl (λ _. more refl (λ _. by_lowest refl (shares_below list) none))))))

  pub opening_below : (r : Release) (list : List ℕ)
      → CallBelow d (opening (below_limits d) m c r list) (opening d m c r list)
  unfolding opening
  opening_below r list =
      below_by_checks d m _ _ [] (checks_below r.number list) refl refl refl (λ _. refl)
      (λ _. same_directory refl refl refl refl)
