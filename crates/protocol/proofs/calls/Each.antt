-- Each accepted call answers what the book holds and keeps the invariant.
use Rattle.std.specs.Prelude.{ℕ, ◌≡◌, List, Bool, true}
use Rattle.directory.specs.declared.Directory.{Directory}
use Rattle.directory.specs.NewHome.{HomeRule, NamesLive}
use Rattle.protocol.specs.Result.{accepted}
use Rattle.protocol.specs.Calls.{Call, start_release, make_step, fetch_page, fail_card, recover, join_card}
use Rattle.protocol.specs.Calls.{ask_desk, perform_by}
use Rattle.protocol.specs.Book.{Book}
use Rattle.protocol.specs.Demand3.{Typed}
use Rattle.protocol.proofs.invariant.Rack.{Rack, LiveOnline}
use Rattle.protocol.proofs.calls.Opening.{opening-accepted}
use Rattle.protocol.proofs.calls.Step.{step-accepted}
use Rattle.protocol.proofs.calls.Fetch.{fetch-accepted}
use Rattle.protocol.proofs.calls.Failure.{failure-accepted}
use Rattle.protocol.proofs.calls.Join.{join-accepted}
use Rattle.protocol.proofs.calls.DeskQuestion.{desk-accepted}
use Rattle.protocol.proofs.calls.Recovery.{recovery-accepted}
use Rattle.protocol.proofs.calls.Accepted.{AcceptedCall}

module _ (d : Directory) (m : List ℕ) (b : Book) (offline : ℕ → Bool) (rack : Rack d m b)
    (online : LiveOnline d offline) (rule : HomeRule) (good : NamesLive rule) where
  pub each_accepted : (call : Call) → Typed call → accepted (perform_by rule call d m).outcome ≡ true
      → AcceptedCall call offline b (perform_by rule call d m)
  unfolding perform_by Typed
  each_accepted (start_release card r list) typed = opening-accepted d m b offline rack online card r list typed
  each_accepted (make_step card) typed = step-accepted d m b offline rack online card
  each_accepted (fetch_page page buffer) typed = fetch-accepted d m b offline rack online page buffer
  each_accepted (fail_card card) typed = failure-accepted d m b offline rack online card
  each_accepted recover typed = recovery-accepted d m b offline rack online rule good
  each_accepted (join_card card) typed = join-accepted d m b offline rack online card
  each_accepted (ask_desk card) typed = desk-accepted d m b offline rack online card
