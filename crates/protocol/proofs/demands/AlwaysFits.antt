-- No call on a rack that agrees with its book is refused with 2.
use Rattle.std.specs.Prelude.{ℕ, ◌≡◌, ◌≢◌, List, ◌++◌, Bool, true, false}
use Rattle.laws.proofs.Prelude.{refl, sym, ◌∙◌, true≢false, arith, eqb-true}
use Rattle.answer.specs.declared.Outcome.{Outcome}
use Rattle.answer.specs.Outcome.{unfit}
use Rattle.directory.specs.declared.Directory.{Directory}
use Rattle.directory.specs.NewHome.{HomeRule}
use Rattle.protocol.specs.Checks.{Check, first_refusal, fitting_checks}
use Rattle.protocol.specs.Result.{accepted}
use Rattle.protocol.specs.Calls.{Call, perform_by}
use Rattle.protocol.specs.Demand1.{is_among, handed_back}
use Rattle.protocol.specs.Demand3.{answer_to, ByAnyRule}
use Rattle.protocol.specs.Corollaries.{AlwaysFitsBy}
use Rattle.protocol.proofs.checks.ByCall.{Fits, after_two}
use Rattle.protocol.proofs.checks.Outcome.{outcome_of_lem, numbers_of, among}
use Rattle.protocol.proofs.invariant.Fits.{rack_fits}
use Rattle.protocol.proofs.calls.Performed.{performed}
use Rattle.protocol.proofs.demands.Demand3.{everywhere}

other_number : (cs : List Check) (value : ℕ) → is_among (numbers_of cs) unfit ≡ false
    → (first_refusal cs value).number ≢ unfit
other_number cs value absent same = go (accepted (first_refusal cs value)) refl
  where
    go : (taken : Bool) → accepted (first_refusal cs value) ≡ taken → ⊥
    go true ok = omega (arith, same, eqb-true (first_refusal cs value).number 0 ok)
    go false refused = true≢false (sym (among cs value refused) ∙ (rw same absent))

module _ (d : Directory) (m : List ℕ) (fits : Fits d m) where
  never_unfit : (rule : HomeRule) (call : Call) → (perform_by rule call d m).outcome.number ≢ unfit
  never_unfit rule call =
      let by = performed rule call d m in
      let o : Outcome = first_refusal (fitting_checks d m ++ by.more) by.value in
      rw (by.is, outcome_of_lem o by.done d m (handed_back call) by.same, after_two d m fits by.more by.value)
      (other_number by.more by.value by.unfit_once)

pub always_fits : ByAnyRule AlwaysFitsBy
always_fits rule good =
    everywhere rule good (λ b d e. (answer_to rule d e).outcome.number ≢ unfit)
    (λ d offline b e rack online typed. never_unfit d e.found (rack_fits d e.found b rack) rule e.call)
