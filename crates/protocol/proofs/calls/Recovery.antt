-- An accepted recovery answers the failed card's last release, and leaves a rack that runs.
use Rattle.std.specs.Prelude.{ℕ, ◌≡◌, List, Bool, true}
use Rattle.laws.proofs.Prelude.{refl, ap, ◌∙◌, subst, inl, not-false}
use Rattle.answer.specs.declared.Outcome.{Outcome}
use Rattle.answer.specs.Outcome.{given}
use Rattle.directory.specs.declared.Directory.{Directory}
use Rattle.directory.specs.Directory.{live_at}
use Rattle.directory.specs.NewHome.{HomeRule, NamesLive}
use Rattle.area.specs.Prelude.{Release}
use Rattle.protocol.specs.Checks.{first_refusal, awaits_recovery}
use Rattle.protocol.specs.Result.{accepted}
use Rattle.protocol.specs.Recovery.{recovery_by, recovery_checks, failed_release, awaited_card, recovered_directory}
use Rattle.protocol.specs.Recovery.{recovered_memory}
use Rattle.protocol.specs.Calls.{recover}
use Rattle.protocol.specs.Book.{Book, transition}
use Rattle.protocol.specs.Demand3.{offline_after, Conforms}
use Rattle.protocol.proofs.invariant.Rack.{AwaitingRack, Rack, LiveOnline}
use Rattle.protocol.proofs.recovery.BeforeRecords.{enough, answers_awaited}
use Rattle.protocol.proofs.recovery.Recovered.{recovers}
use Rattle.protocol.proofs.recovery.Homes.{recovered_parts}
use Rattle.protocol.proofs.checks.Outcome.{given_value}
use Rattle.protocol.proofs.calls.Accepted.{AcceptedCall, accepted_by_checks, awaiting_rack}

module _ (d : Directory) (m : List ℕ) (b : Book) (offline : ℕ → Bool) (rack : Rack d m b)
    (online : LiveOnline d offline) (rule : HomeRule) (good : NamesLive rule) where
  pub recovery-accepted : accepted (recovery_by rule d m).outcome ≡ true
      → AcceptedCall recover offline b (recovery_by rule d m)
  unfolding recovery_by awaited_card Conforms transition offline_after
  recovery-accepted =
      accepted_by_checks d m b offline rack online recover (recovery_checks d m) _ _ _ refl refl
      (λ p.
      let awaited = awaiting_rack rack (not-false (awaits_recovery d.status) p.1.1.0) in
      recovered awaited.0 awaited.1 (given_value (recovery_checks d m) _ p))
    where
      recovered : (f : ℕ) → AwaitingRack d f m b
          → first_refusal (recovery_checks d m) (failed_release d (awaited_card d.status) m).number
          ≡ given (failed_release d (awaited_card d.status) m).number
          → AcceptedCall recover offline b
          (record {
            outcome = first_refusal (recovery_checks d m) (failed_release d (awaited_card d.status) m).number;
            directory = recovered_directory rule d (awaited_card d.status);
            memory = recovered_memory rule d (awaited_card d.status) m;
            words = (failed_release d (awaited_card d.status) m).desk;
          })
      recovered f awaiting gives =
          let card : awaited_card d.status ≡ f = rw awaiting.awaiting in
          let release-is = answers_awaited d f m b awaiting in
          record {
            conforms = (
              ap (λ (o : Outcome). o.value) gives ∙ ap (λ (r : Release). r.number) release-is,
              ap (λ (r : Release). r.desk) release-is,
            );
            rack = inl (rw card (recovers d f m b awaiting rule good));
            online = λ c live. online c (subst (λ (marks : List Bool). live_at marks c ≡ true) (marks card) live);
          }
        where
          marks : awaited_card d.status ≡ f → (recovered_directory rule d (awaited_card d.status)).live ≡ d.live
          marks card =
              rw card
              (ap (λ (after : Directory). after.live)
              (recovered_parts rule d f (enough awaiting)))
