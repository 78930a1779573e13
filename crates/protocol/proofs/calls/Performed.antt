-- Every call by its checks: it comes to the first refusal of a list of checks that begins with 1 and 2, and a refused
-- call hands back what was there.
use Rattle.std.specs.Prelude.{ℕ, ◌≡◌, List, ◌++◌, false, length, drop}
use Rattle.laws.proofs.Prelude.{refl}
use Rattle.answer.specs.Outcome.{unfit}
use Rattle.directory.specs.declared.Directory.{Directory}
use Rattle.directory.specs.NewHome.{HomeRule}
use Rattle.protocol.specs.Checks.{Check, first_refusal, fitting_checks}
use Rattle.protocol.specs.Result.{Result, result_of}
use Rattle.protocol.specs.Calls.{opening, opening_checks, step, step_checks, fetch, fetch_checks, failure}
use Rattle.protocol.specs.Calls.{failure_checks, recovery_by, recovery_checks, join, join_checks, desk_question}
use Rattle.protocol.specs.Calls.{desk_checks, Call, start_release, make_step, fetch_page, fail_card, recover}
use Rattle.protocol.specs.Calls.{join_card, ask_desk, perform_by}
use Rattle.protocol.specs.Demand1.{refusals_of, handed_back, is_among}
use Rattle.protocol.proofs.checks.Outcome.{numbers_of}

pub record Performed (rule : HomeRule) (call : Call) (d : Directory) (m : List ℕ) : Type 0 where
  -- the checks after 1 and 2, what the call gives if it is accepted, and what it then leaves
  pub more : List Check
  pub value : ℕ
  pub done : Result
  pub is : perform_by rule call d m
      ≡ result_of (first_refusal (fitting_checks d m ++ more) value) done d m (handed_back call)
  pub same : done.outcome ≡ first_refusal (fitting_checks d m ++ more) value
  pub numbers : numbers_of (fitting_checks d m ++ more) ≡ refusals_of call
  pub unfit_once : is_among (numbers_of more) unfit ≡ false

-- a call by all its checks, of which the first two are 1 and 2
by_checks : (rule : HomeRule) (call : Call) (d : Directory) (m : List ℕ) (checks : List Check) (value : ℕ)
    (done : Result)
    → perform_by rule call d m
    ≡ result_of (first_refusal (fitting_checks d m ++ drop 2 checks) value) done d m (handed_back call)
    → done.outcome ≡ first_refusal (fitting_checks d m ++ drop 2 checks) value
    → numbers_of (fitting_checks d m ++ drop 2 checks) ≡ refusals_of call
    → is_among (numbers_of (drop 2 checks)) unfit ≡ false → Performed rule call d m
by_checks rule call d m checks value done is same numbers unfit_once =
    record {
      more = drop 2 checks;
      value = value;
      done = done;
      is = is;
      same = same;
      numbers = numbers;
      unfit_once = unfit_once;
    }

pub performed : (rule : HomeRule) (call : Call) (d : Directory) (m : List ℕ) → Performed rule call d m
unfolding perform_by opening step fetch failure recovery_by join desk_question is_among
performed rule (start_release card r list) d m =
    by_checks rule (start_release card r list) d m (opening_checks d m card r.number list) 0 _ refl refl refl refl
performed rule (make_step card) d m = by_checks rule (make_step card) d m (step_checks d m card) 0 _ refl refl refl refl
performed rule (fetch_page page buffer) d m =
    by_checks rule (fetch_page page buffer) d m (fetch_checks d m page (length buffer)) 0 _ refl refl refl refl
performed rule (fail_card card) d m =
    by_checks rule (fail_card card) d m (failure_checks d m card) 0 _ refl refl refl refl
performed rule recover d m = by_checks rule recover d m (recovery_checks d m) _ _ refl refl refl refl
performed rule (join_card card) d m = by_checks rule (join_card card) d m (join_checks d m card) 0 _ refl refl refl refl
performed rule (ask_desk card) d m = by_checks rule (ask_desk card) d m (desk_checks d m card) 0 _ refl refl refl refl
