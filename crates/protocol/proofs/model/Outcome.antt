-- Every call comes to what the model says: its number, its place and its value.
use Rattle.std.specs.Prelude.{ℕ, ◌≡◌, List, ◌++◌}
use Rattle.laws.proofs.Prelude.{refl, ap, ◌∙◌, not-false}
use Rattle.directory.specs.declared.Directory.{Directory}
use Rattle.directory.specs.NewHome.{HomeRule}
use Rattle.area.specs.Prelude.{Release}
use Rattle.protocol.specs.Checks.{Check, first_refusal, fitting_checks, awaits_recovery}
use Rattle.protocol.specs.Result.{Result, result_of}
use Rattle.protocol.specs.Recovery.{failed_release, awaited_card}
use Rattle.protocol.specs.Calls.{opening, step, fetch, failure, recovery_by, join, desk_question, Call}
use Rattle.protocol.specs.Calls.{start_release, make_step, fetch_page, fail_card, recover, join_card, ask_desk, perform_by}
use Rattle.protocol.specs.Model.{Model, model_checks, model_value, model_outcome}
use Rattle.protocol.proofs.checks.Outcome.{SameChecks, first_agree, outcome_of_lem, Passed}
use Rattle.protocol.proofs.checks.ByCall.{after_two}
use Rattle.protocol.proofs.invariant.Fits.{rack_fits}
use Rattle.protocol.proofs.recovery.BeforeRecords.{answers_awaited}
use Rattle.protocol.proofs.calls.Accepted.{awaiting_rack}
use Rattle.protocol.proofs.model.Agrees.{Agrees}
use Rattle.protocol.proofs.model.Checks.{opening_checks_lem, step_checks_lem, fetch_checks_lem, failure_checks_lem}
use Rattle.protocol.proofs.model.Checks.{recovery_checks_lem, join_checks_lem, desk_checks_lem}

module _ (d : Directory) (m : List ℕ) (s : Model) (agrees : Agrees d m s) where
  -- a call by its checks after 1 and 2
  outcome_by_checks : (cs xs : List Check) (value value' : ℕ) (done : Result) (words : List ℕ)
      → done.outcome ≡ first_refusal (fitting_checks d m ++ cs) value → SameChecks cs xs
      → (Passed xs → value ≡ value')
      → (result_of (first_refusal (fitting_checks d m ++ cs) value) done d m words).outcome ≡ first_refusal xs value'
  outcome_by_checks cs xs value value' done words same checks gives =
      outcome_of_lem (first_refusal (fitting_checks d m ++ cs) value) done d m words same
      ∙ after_two d m (rack_fits d m s.book agrees.rack) cs value ∙ first_agree checks gives

  -- a recovery that is accepted answers the last number of the card that failed last
  recovery_value : Passed (model_checks s recover)
      → (failed_release d (awaited_card d.status) m).number ≡ model_value s recover
  unfolding model_checks model_value
  recovery_value passed =
      let awaited = awaiting_rack agrees.rack
      (ap awaits_recovery agrees.beside.status ∙ not-false (awaits_recovery s.status) passed.0) in
      ap (λ (r : Release). r.number) (answers_awaited d awaited.0 m s.book awaited.1)

  pub outcome_agrees : (rule : HomeRule) (call : Call) → (perform_by rule call d m).outcome ≡ model_outcome s call
  unfolding perform_by opening step fetch failure recovery_by join desk_question model_outcome model_value
  outcome_agrees rule (start_release card r list) =
      outcome_by_checks _ _ 0 0 _ _ refl (opening_checks_lem d m s agrees card r list) (λ _. refl)
  outcome_agrees rule (make_step card) = outcome_by_checks _ _ 0 0 _ _ refl (step_checks_lem d m s agrees card) (λ _. refl)
  outcome_agrees rule (fetch_page page buffer) =
      outcome_by_checks _ _ 0 0 _ _ refl (fetch_checks_lem d m s agrees page buffer) (λ _. refl)
  outcome_agrees rule (fail_card card) = outcome_by_checks _ _ 0 0 _ _ refl (failure_checks_lem d m s agrees card) (λ _. refl)
  outcome_agrees rule recover = outcome_by_checks _ _ _ _ _ _ refl (recovery_checks_lem d m s agrees) recovery_value
  outcome_agrees rule (join_card card) = outcome_by_checks _ _ 0 0 _ _ refl (join_checks_lem d m s agrees card) (λ _. refl)
  outcome_agrees rule (ask_desk card) = outcome_by_checks _ _ 0 0 _ _ refl (desk_checks_lem d m s agrees card) (λ _. refl)
