-- Two checks in order: the first's refusal, or what the second comes to.
use mathlib.Core.Path.{◌≡◌, refl, sym, ◌∙◌}
use mathlib.Core.Logic.{◌≢◌}
use mathlib.Core.Bool.{Bool, true, false, cond, true≢false}
use lib.Dec.{eqb}
use borrow.Author.Tests.{eq-eqb, ne_eqb, eqb-true}
use Rattle.answer.specs.declared.Outcome.{Outcome}
use Rattle.answer.specs.Outcome.{and_then}

module _ (first second : Outcome) where
  pub first_refuses : first.number ≢ 0 → and_then first second ≡ first
  first_refuses refusal = rw (ne_eqb first.number 0 refusal)

  pub first_passes : first.number ≡ 0 → and_then first second ≡ second
  first_passes passed = rw (eq-eqb first.number 0 passed)

  pub both_pass : (and_then first second).number ≡ 0 → (first.number ≡ 0) × (second.number ≡ 0)
  both_pass e = go (eqb first.number 0) refl e
    where
      go : (is : Bool) → eqb first.number 0 ≡ is → (cond is second first).number ≡ 0
          → (first.number ≡ 0) × (second.number ≡ 0)
      go true is e = (eqb-true first.number 0 is, e)
      go false un e = absurd (true≢false (sym (eq-eqb first.number 0 e) ∙ un))

-- three checks in order
pub in_order : (first second third : Outcome)
    → and_then (and_then first second) third ≡ and_then first (and_then second third)
in_order first second third = go (eqb first.number 0) refl
  where
    go : (is : Bool) → eqb first.number 0 ≡ is
        → and_then (and_then first second) third ≡ and_then first (and_then second third)
    go true is = rw is
    go false un = rw un (rw un)
