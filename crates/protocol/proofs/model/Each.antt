-- Each accepted call does what the model does.
use Rattle.std.specs.Prelude.{ℕ, ◌≡◌, List, true}
use Rattle.directory.specs.declared.Directory.{Directory}
use Rattle.directory.specs.NewHome.{HomeRule}
use Rattle.protocol.specs.Result.{accepted}
use Rattle.protocol.specs.Calls.{Call, start_release, make_step, fetch_page, fail_card, recover, join_card}
use Rattle.protocol.specs.Calls.{ask_desk, perform_by}
use Rattle.protocol.specs.Demand3.{Typed}
use Rattle.protocol.specs.Model.{Model}
use Rattle.protocol.proofs.model.Agrees.{Agrees}
use Rattle.protocol.proofs.model.Simulation.{Simulates}
use Rattle.protocol.proofs.model.Releasing.{opening_simulates, step_simulates}
use Rattle.protocol.proofs.model.Reading.{fetch_simulates, desk_simulates}
use Rattle.protocol.proofs.model.Cards.{failure_simulates, join_simulates}
use Rattle.protocol.proofs.model.Recovery.{recovery_simulates}

module _ (d : Directory) (m : List ℕ) (s : Model) (agrees : Agrees d m s) (rule : HomeRule) where
  pub simulates : (call : Call) → Typed call → accepted (perform_by rule call d m).outcome ≡ true
      → Simulates s call (perform_by rule call d m)
  unfolding perform_by Typed
  simulates (start_release card r list) typed = opening_simulates d m s agrees card r list typed
  simulates (make_step card) typed = step_simulates d m s agrees card
  simulates (fetch_page page buffer) typed = fetch_simulates d m s agrees page buffer
  simulates (fail_card card) typed = failure_simulates d m s agrees card
  simulates recover typed = recovery_simulates d m s agrees rule
  simulates (join_card card) typed = join_simulates d m s agrees card
  simulates (ask_desk card) typed = desk_simulates d m s agrees card
