-- What an accepted call must come to, and a call whose checks all pass.
use Rattle.std.specs.Prelude.{ℕ, ◌≡◌, List, Bool, true}
use Rattle.laws.proofs.Prelude.{sym, ap, ◌∙◌, inl, inr, true≢false, false≢true}
use Rattle.directory.specs.declared.Directory.{Directory}
use Rattle.directory.specs.declared.Status.TheVariants.{Running}
use Rattle.protocol.specs.Checks.{Check, first_refusal, awaits_recovery}
use Rattle.protocol.specs.Result.{Result, accepted, result_of}
use Rattle.protocol.specs.Calls.{Call}
use Rattle.protocol.specs.Book.{Book, transition}
use Rattle.protocol.specs.Demand3.{offline_after, Conforms}
use Rattle.protocol.proofs.invariant.Rack.{RunningRack, AwaitingRack, Rack, LiveOnline}
use Rattle.protocol.proofs.checks.Outcome.{numbered, Passed, by_passed}
use Rattle.protocol.proofs.checks.ByCall.{Runs}

pub record AcceptedCall (call : Call) (offline : ℕ → Bool) (b : Book) (result : Result) : Type 0 where
  pub conforms : Conforms b call result
  pub rack : Rack result.directory result.memory (transition call b)
  pub online : LiveOnline result.directory (offline_after call offline)

-- a rack by its status
pub running_rack : {d : Directory} {m : List ℕ} {b : Book} → Rack d m b → d.status ≡ Running → RunningRack d m b
unfolding awaits_recovery
running_rack (inl rack) running = rack
running_rack (inr rack) running = absurd (true≢false (ap awaits_recovery (sym rack.1.awaiting ∙ running)))

pub awaiting_rack : {d : Directory} {m : List ℕ} {b : Book} → Rack d m b → awaits_recovery d.status ≡ true
    → (f : ℕ) × AwaitingRack d f m b
unfolding awaits_recovery
awaiting_rack (inl rack) awaits = absurd (false≢true (ap awaits_recovery (sym rack.running) ∙ awaits))
awaiting_rack (inr rack) awaits = rack

module _ (d : Directory) (m : List ℕ) (b : Book) (offline : ℕ → Bool) (rack : Rack d m b)
    (online : LiveOnline d offline) where
  -- a call whose checks all pass
  pub accepted_by_checks : (call : Call) (checks : List Check) (value : ℕ) (done : Result) (words : List ℕ)
      → done.outcome ≡ first_refusal checks value → numbered checks ≡ true
      → (Passed checks → AcceptedCall call offline b done)
      → accepted (result_of (first_refusal checks value) done d m words).outcome ≡ true
      → AcceptedCall call offline b (result_of (first_refusal checks value) done d m words)
  accepted_by_checks call checks value done words = by_passed (AcceptedCall call offline b) checks value done d m words

  pub running_if_passed : Runs d m → RunningRack d m b
  running_if_passed runs = running_rack rack runs.running
