-- A failure and its recovery, as one command.
use Rattle.std.specs.Prelude.{ℕ, ◌≡◌, List, [], Ok, Err}
use Rattle.std.specs.Prelude.{Result as Answered}
use Rattle.laws.proofs.Prelude.{refl, ne_eqb}
use Rattle.laws.proofs.Bools.{by_cond}
use Rattle.directory.specs.declared.Directory.{Directory}
use Rattle.answer.specs.declared.Outcome.{Outcome}
use Rattle.answer.specs.declared.Refusal.{Refusal}
use Rattle.answer.specs.Refusal.{outcome_of}
use Rattle.answer.proofs.Refusals.{numbered}
use Rattle.protocol.specs.Checks.{first_refusal}
use Rattle.protocol.specs.Failure.{failure, failure_checks, failed_directory}
use Rattle.protocol.specs.Recovery.{recovery}
use Rattle.commands.specs.Execute.{fail_and_recover}
use Rattle.protocol.specs.Result.{Result, accepted}

-- a failure changes no word
pub failure_keeps : (d : Directory) (m : List ℕ) (card : ℕ) → (failure d m card).memory ≡ m
unfolding failure
failure_keeps d m card =
    let o : Outcome = first_refusal (failure_checks d m card) 0 in
    by_cond (λ (r : Result). r.memory ≡ m) (accepted o)
    (record { outcome = o; directory = failed_directory d card; memory = m; words = [] })
    (record { outcome = o; directory = d; memory = m; words = [] }) (λ _. refl) (λ _. refl)

-- a failure and its recovery, by what the failure answers
module _ (d : Directory) (m : List ℕ) (card : ℕ) {answer : Answered ℕ Refusal}
    (comes : outcome_of answer ≡ (failure d m card).outcome) where
  pub failure-refused : {e : Refusal} → answer ≡ Err e → fail_and_recover card d m ≡ failure d m card
  unfolding fail_and_recover
  failure-refused {e} refused = let is = rw refused at comes in rw (← is) (simp (ne_eqb _ 0 (numbered e)))

  pub failure-recovered : {value : ℕ} → answer ≡ Ok value
      → fail_and_recover card d m ≡ recovery (failure d m card).directory m
  unfolding fail_and_recover
  failure-recovered taken = let is = rw taken at comes in rw (← is, failure_keeps d m card)
