-- Checks in order: of two lists of checks the first decides, and where none of it refuses the second.
use Rattle.std.specs.Prelude.{ℕ, ◌≡◌, List, [], ◌∷◌, ◌++◌, Bool, true, false, cond, not, eqb, Ok, Err, Result}
use Rattle.laws.proofs.Prelude.{refl, sym, ◌∙◌, ne_eqb, eq-eqb, not-true}
use Rattle.laws.proofs.Bools.{and_first, and_second}
use Rattle.answer.specs.declared.Refusal.{Refusal}
use Rattle.answer.specs.Outcome.{given, refused_at}
use Rattle.answer.specs.Refusal.{checked, told, number_of, place_of}
use Rattle.answer.proofs.Refusals.{passed_zero, refused_told}
use Rattle.answer.proofs.Refusals.{numbered as refusal_numbered}
use Rattle.protocol.specs.Checks.{Check, check, check_at, first_refusal}
use Rattle.protocol.proofs.checks.Outcome.{numbered}
use Rattle.checks.specs.Numbers.{checked_by_number}

-- ---- one check before others, and none

pub no_check : (value : ℕ) → first_refusal [] value ≡ given value
unfolding first_refusal
no_check value = refl

module _ (refuses : Bool) (number place : ℕ) where
  pub first_refuses : (more : List Check) (value : ℕ) → refuses ≡ true
      → first_refusal (check_at refuses number place ∷ more) value ≡ refused_at number place
  unfolding first_refusal
  first_refuses more value hit = rw hit

  pub first_passes : (more : List Check) (value : ℕ) → refuses ≡ false
      → first_refusal (check_at refuses number place ∷ more) value ≡ first_refusal more value
  unfolding first_refusal
  first_passes more value miss = rw miss

  pub last_passes : (value : ℕ) → refuses ≡ false
      → first_refusal (check_at refuses number place ∷ []) value ≡ given value
  unfolding first_refusal
  last_passes value miss = rw miss

-- the last check, of a refusal
pub last_checked : (refuses : Bool) (refusal : Refusal) {result : Result (Unit {0}) Refusal}
    → result ≡ cond refuses (Err refusal) (Ok tt)
    → checked result ≡ first_refusal (check_at refuses (number_of refusal) (place_of refusal) ∷ []) 0
unfolding first_refusal
last_checked true refusal is = rw is refl
last_checked false refusal is = rw is refl

-- and of a number alone
pub last_numbered : (refuses : Bool) (number : ℕ) {result : Result (Unit {0}) ℕ}
    → result ≡ cond refuses (Err number) (Ok tt)
    → checked_by_number result ≡ first_refusal (check refuses number ∷ []) 0
unfolding first_refusal
last_numbered true number is = rw is refl
last_numbered false number is = rw is refl

-- ---- checks that come to an outcome, before others

module _ (more : List Check) (value : ℕ) where
  first_then : (cs : List Check) → numbered cs ≡ true
      → first_refusal (cs ++ more) value
      ≡ cond (eqb (first_refusal cs 0).number 0) (first_refusal more value) (first_refusal cs 0)
  unfolding first_refusal
  first_then [] all = refl
  first_then (c ∷ cs) all =
      go c.refuses (first_then cs (and_second (not (eqb c.number 0)) (numbered cs) all))
    where
      go : (refuses : Bool)
          → (first_refusal (cs ++ more) value
          ≡ cond (eqb (first_refusal cs 0).number 0) (first_refusal more value) (first_refusal cs 0))
          → cond refuses (refused_at c.number c.place) (first_refusal (cs ++ more) value)
          ≡ cond (eqb (cond refuses (refused_at c.number c.place) (first_refusal cs 0)).number 0)
          (first_refusal more value) (cond refuses (refused_at c.number c.place) (first_refusal cs 0))
      go true later = rw (not-true (eqb c.number 0) (and_first (not (eqb c.number 0)) (numbered cs) all))
      go false later = later

  -- the same of checks that were made: `first` is what they came to
  module _ (cs : List Check) (all : numbered cs ≡ true) {first : Result (Unit {0}) Refusal}
      (reached : checked first ≡ first_refusal cs 0) where
    pub refused_first : {e : Refusal} → first ≡ Err e → told e ≡ first_refusal (cs ++ more) value
    refused_first {e} refused =
        let is = refused_told reached refused in
        is ∙ sym (first_then cs all ∙ rw (← is) (rw (ne_eqb _ _ (refusal_numbered e))))

    pub passed_first : {u : Unit {0}} → first ≡ Ok u → first_refusal (cs ++ more) value ≡ first_refusal more value
    passed_first passed = first_then cs all ∙ rw (eq-eqb _ _ (passed_zero reached passed))
