-- An accepted failure leaves a rack that awaits the recovery of the failed card.
use Rattle.std.specs.Prelude.{ℕ, ◌≡◌, List, [], Bool, true, false}
use Rattle.laws.proofs.Prelude.{refl, sym, ◌∙◌, inr, true≢false, ℕ_discrete}
use Rattle.directory.specs.declared.Directory.{Directory}
use Rattle.directory.specs.Directory.{is_live}
use Rattle.directory.proofs.Changes.{live_of_marked_dead, live_of_other}
use Rattle.protocol.specs.Result.{accepted}
use Rattle.protocol.specs.Failure.{failure, failure_checks, failed_directory}
use Rattle.protocol.specs.Calls.{fail_card}
use Rattle.protocol.specs.Book.{Book, transition, update}
use Rattle.protocol.specs.Demand3.{offline_after, Conforms}
use Rattle.protocol.proofs.book.Changes.{update_other}
use Rattle.protocol.proofs.invariant.Failure.{fails}
use Rattle.protocol.proofs.invariant.TwoStay.{two_stay}
use Rattle.protocol.proofs.checks.ByCall.{failure_passed}
use Rattle.protocol.proofs.invariant.Rack.{Rack, LiveOnline}
use Rattle.protocol.proofs.calls.Accepted.{AcceptedCall, accepted_by_checks, running_if_passed}

module _ (d : Directory) (m : List ℕ) (b : Book) (offline : ℕ → Bool) (rack : Rack d m b)
    (online : LiveOnline d offline) where
  pub failure-accepted : (c : ℕ) → accepted (failure d m c).outcome ≡ true
      → AcceptedCall (fail_card c) offline b (failure d m c)
  unfolding failure Conforms transition offline_after
  failure-accepted c =
      accepted_by_checks d m b offline rack online (fail_card c) (failure_checks d m c) 0 _ [] refl refl
      (λ p.
      let passed = failure_passed d m c p in
      record {
        conforms = tt;
        rack =
            inr (
              c,
              fails d c m b (running_if_passed d m b offline rack online passed.runs) passed.live
                  (two_stay d c passed.many),
            );
        online = still_online;
      })
    where
      still_online : (x : ℕ) → is_live (failed_directory d c) x ≡ true → update offline c true x ≡ false
      still_online x live =
          elim (ℕ_discrete x c) [
            | yes same ↦ absurd (true≢false (sym live ∙ (rw same (live_of_marked_dead d c))))
            | no other ↦ update_other offline c true x other ∙ online x (sym (live_of_other d c false x other) ∙ live)
          ]
