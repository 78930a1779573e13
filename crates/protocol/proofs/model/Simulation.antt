-- What an accepted call must come to beside the model: its words, and what it leaves.
use Rattle.std.specs.Prelude.{ℕ, ◌≡◌, List}
use Rattle.directory.specs.declared.Directory.{Directory}
use Rattle.protocol.specs.Result.{Result}
use Rattle.protocol.specs.Calls.{Call}
use Rattle.protocol.specs.Model.{Model, model_words, model_change}
use Rattle.protocol.proofs.checks.ByCall.{Runs}
use Rattle.protocol.proofs.invariant.Rack.{RunningRack}
use Rattle.protocol.proofs.calls.Accepted.{running_rack}
use Rattle.protocol.proofs.model.Agrees.{Beside, Agrees}

pub record Simulates (s : Model) (call : Call) (result : Result) : Type 0 where
  pub words : result.words ≡ model_words s call
  pub beside : Beside result.directory result.memory (model_change call s)

-- a rack that runs
pub runs_beside : {d : Directory} {m : List ℕ} {s : Model} → Agrees d m s → Runs d m → RunningRack d m s.book
runs_beside agrees runs = running_rack agrees.rack runs.running
