-- A refused call leaves memory, directory and buffers as they were: it rests on the order of its checks.
use Rattle.std.specs.Prelude.{ℕ, ◌≡◌, List, ◌++◌, false}
use Rattle.laws.proofs.Prelude.{refl}
use Rattle.directory.specs.declared.Directory.{Directory}
use Rattle.directory.specs.NewHome.{HomeRule}
use Rattle.protocol.specs.Checks.{Check, first_refusal, fitting_checks}
use Rattle.protocol.specs.Result.{Result, accepted, result_of}
use Rattle.protocol.specs.Calls.{Call, perform_by}
use Rattle.protocol.specs.Demand1.{refusals_of, handed_back, Unchanged}
use Rattle.protocol.proofs.checks.Outcome.{when_refused, numbers_of, among}
use Rattle.protocol.proofs.calls.Performed.{performed}

pub refused_by_checks : (cs : List Check) (value : ℕ) (done : Result) (d : Directory) (m words : List ℕ)
    → done.outcome ≡ first_refusal cs value
    → accepted (result_of (first_refusal cs value) done d m words).outcome ≡ false
    → Unchanged (numbers_of cs) d m words (result_of (first_refusal cs value) done d m words)
refused_by_checks cs value done d m words same refused =
    let e = when_refused (first_refusal cs value) done d m words same refused in
    rw e
    (record {
      numbered = among cs value (rw e at refused);
      directory = refl;
      memory = refl;
      words = refl;
    })

pub refused_unchanged : (rule : HomeRule) (call : Call) (d : Directory) (m : List ℕ)
    → accepted (perform_by rule call d m).outcome ≡ false
    → Unchanged (refusals_of call) d m (handed_back call) (perform_by rule call d m)
refused_unchanged rule call d m refused =
    let by = performed rule call d m in
    rw (by.is, ← by.numbers)
    (refused_by_checks (fitting_checks d m ++ by.more) by.value by.done d m (handed_back call) by.same
    (rw by.is at refused))
