-- Check 2, and the checks that calls share, read nothing past a directory's cards and pages.
use Rattle.std.specs.Prelude.{ℕ, ◌<◌, ◌≡◌, List, ◌∷◌, ◌++◌, Bool, not, ◌&&◌, ltb}
use Rattle.laws.proofs.Prelude.{refl, ap, arith}
use Rattle.laws.proofs.Search.{some_agree, count_agree}
use Rattle.answer.specs.Outcome.{unfit, no_card}
use Rattle.directory.specs.declared.Directory.{Directory}
use Rattle.directory.specs.declared.Status.{Status}
use Rattle.directory.specs.declared.Status.TheVariants.{Running, Awaiting}
use Rattle.directory.specs.Directory.{live_at, primary_of, secondary_of, awaits_card}
use Rattle.protocol.specs.Checks.{few_live, bad_home, bad_page, bad_status, bad_card, unfit_rack, Check, check}
use Rattle.protocol.specs.Checks.{fitting_checks, running_checks, no_live_card}
use Rattle.protocol.specs.PastLimits.{below_limits}
use Rattle.protocol.proofs.checks.ByCall.{live_card}
use Rattle.protocol.proofs.checks.Outcome.{more, SameChecks}
use Rattle.protocol.proofs.past_limits.Directory.{marks_below, live_below, real_below, primary_below}
use Rattle.protocol.proofs.past_limits.Directory.{secondary_below}

module _ (d : Directory) where
  few_below : few_live (marks_below d) d.cards ≡ few_live d.live d.cards
  unfolding few_live
  few_below =
      ap (λ (n : ℕ). ltb n 2)
      (count_agree (live_at (marks_below d)) (live_at d.live) _ (λ c below. live_below d c (omega arith)))

  home_below : (h : ℕ) → bad_home d.cards (marks_below d) d.status h ≡ bad_home d.cards d.live d.status h
  unfolding bad_home
  home_below h = real_below d (λ up. not up && not (awaits_card d.status h)) h

  page_below : (p : ℕ) → p < d.pages → bad_page (below_limits d) p ≡ bad_page d p
  unfolding bad_page
  page_below p page =
      rw (primary_below d p page, secondary_below d p page, home_below (primary_of d p), home_below (secondary_of d p))

  status_below : (status : Status)
      → bad_status d.cards (marks_below d) status ≡ bad_status d.cards d.live status
  unfolding bad_status
  status_below Running = refl
  status_below (Awaiting f) = real_below d (λ up. up) f

  card_below : (m : List ℕ) (c : ℕ) → c < d.cards
      → bad_card (marks_below d) d.pages m c ≡ bad_card d.live d.pages m c
  unfolding bad_card
  card_below m c real = rw (live_below d c real)

  unfit_below : (m : List ℕ) → unfit_rack (below_limits d) m ≡ unfit_rack d m
  unfolding unfit_rack
  unfit_below m =
      rw (
        few_below,
        some_agree (bad_page (below_limits d)) (bad_page d) d.pages page_below,
        status_below d.status,
        some_agree (bad_card (marks_below d) d.pages m) (bad_card d.live d.pages m) d.cards (card_below m),
      )

-- ---- the checks that calls share

module _ (d : Directory) (m : List ℕ) where
  pub fitting_then : {cs xs : List Check} → SameChecks cs xs
      → SameChecks (fitting_checks (below_limits d) m ++ cs) (fitting_checks d m ++ xs)
  fitting_then rest = more refl (λ _. more (ap (λ (bad : Bool). check bad unfit) (unfit_below d m)) (λ _. rest))

  pub running_then : {cs xs : List Check} → SameChecks cs xs
      → SameChecks (running_checks (below_limits d) m ++ cs) (running_checks d m ++ xs)
  running_then rest = fitting_then (more refl (λ _. rest))

  pub live_then : (c : ℕ) {cs xs : List Check} → (c < d.cards → SameChecks cs xs)
      → SameChecks (check (no_live_card (below_limits d) c) no_card ∷ cs) (check (no_live_card d c) no_card ∷ xs)
  live_then c rest =
      more (ap (λ (none : Bool). check none no_card) (real_below d not c)) (λ is. rest (live_card d c is).0)
