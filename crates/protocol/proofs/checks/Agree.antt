-- Checks of two lists that agree, one by one, in their tests and places.
use Rattle.std.specs.Prelude.{ℕ, ◌<◌, ◌≡◌, List, ◌∷◌, Bool, false}
use Rattle.laws.proofs.Prelude.{refl}
use Rattle.laws.specs.Search.{lowest, any_below}
use Rattle.laws.proofs.Search.{lowest_agree}
use Rattle.protocol.specs.Checks.{Check, check, check_at}
use Rattle.protocol.proofs.checks.Outcome.{SameChecks, more}

module _ {number : ℕ} {cs xs : List Check} where
  pub by_place : {test test' : Bool} {place place' : ℕ} → test ≡ test' → place ≡ place'
      → (test' ≡ false → SameChecks cs xs)
      → SameChecks (check_at test number place ∷ cs) (check_at test' number place' ∷ xs)
  by_place {test} {test'} {place} {place'} same there rest =
      let checks : check_at test number place ≡ check_at test' number place' = rw (same, there) in
      more checks rest

  -- at no place
  pub by_test : {test test' : Bool} → test ≡ test' → (test' ≡ false → SameChecks cs xs)
      → SameChecks (check test number ∷ cs) (check test' number ∷ xs)
  by_test same rest = by_place same refl rest

  -- at the lowest number below a bound that passes a test, and refusing if there is one
  pub by_lowest : {n n' : ℕ} {test test' : ℕ → Bool} → n ≡ n' → ((i : ℕ) → i < n' → test i ≡ test' i)
      → SameChecks cs xs
      → SameChecks (check_at (any_below test n) number (lowest test n) ∷ cs)
      (check_at (any_below test' n') number (lowest test' n') ∷ xs)
  by_lowest {n} {n'} {test} {test'} bound same rest =
      let found = lowest_agree test test' n' same in
      by_place (rw (bound, found)) (rw (bound, found)) (λ _. rest)
