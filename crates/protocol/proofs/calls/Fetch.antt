-- An accepted fetch shows the book's page.
use Rattle.std.specs.Prelude.{ℕ, ◌≡◌, List, Bool, true, length}
use Rattle.laws.proofs.Prelude.{refl}
use Rattle.directory.specs.declared.Directory.{Directory}
use Rattle.protocol.specs.Book.{Book, transition}
use Rattle.protocol.specs.Calls.{fetch_page}
use Rattle.protocol.specs.Fetch.{fetch, fetch_checks}
use Rattle.protocol.specs.Demand3.{offline_after, Conforms}
use Rattle.protocol.specs.Result.{accepted}
use Rattle.protocol.proofs.checks.ByCall.{fetch_passed}
use Rattle.protocol.proofs.invariant.Rack.{Rack, LiveOnline}
use Rattle.protocol.proofs.calls.Accepted.{AcceptedCall, accepted_by_checks, running_if_passed}
use Rattle.protocol.proofs.invariant.Shown.{fetched}

module _ (d : Directory) (m : List ℕ) (b : Book) (offline : ℕ → Bool) (rack : Rack d m b)
    (online : LiveOnline d offline) where
  pub fetch-accepted : (page : ℕ) (buffer : List ℕ) → accepted (fetch d m page buffer).outcome ≡ true
      → AcceptedCall (fetch_page page buffer) offline b (fetch d m page buffer)
  unfolding fetch Conforms transition offline_after
  fetch-accepted page buffer =
      accepted_by_checks d m b offline rack online (fetch_page page buffer)
      (fetch_checks d m page (length buffer)) 0 _ buffer refl refl
      (λ p.
      let passed = fetch_passed d m page (length buffer) p in
      record {
        conforms =
            fetched d m b (running_if_passed d m b offline rack online passed.runs) page (length buffer) passed;
        rack = rack;
        online = online;
      })
