-- An accepted step leaves a rack that runs, beside the book that made it.
use Rattle.std.specs.Prelude.{ℕ, suc, ◌≡◌, ◌≢◌, List, [], Bool, true, false, cond, length, eqb}
use Rattle.laws.proofs.Prelude.{refl, sym, ◌∙◌, true≢false, inl}
use Rattle.directory.specs.declared.Directory.{Directory}
use Rattle.directory.specs.Directory.{backup_of}
use Rattle.protocol.specs.Release.{step_memory, counts_at}
use Rattle.protocol.specs.Book.{Opened, none, opened, list_prices, Book, count, step_book, transition}
use Rattle.protocol.specs.Calls.{make_step}
use Rattle.protocol.specs.Result.{accepted}
use Rattle.protocol.specs.Step.{step, step_checks}
use Rattle.protocol.specs.Demand3.{offline_after, Conforms}
use Rattle.protocol.proofs.book.Changes.{update_other}
use Rattle.protocol.proofs.invariant.Step.{step_core}
use Rattle.protocol.proofs.invariant.Rack.{RunningRack, Rack, LiveOnline}
use Rattle.protocol.proofs.checks.ByCall.{StepPassed, step_passed}
use Rattle.protocol.proofs.invariant.Running.{idle_word, runs_on}
use Rattle.protocol.proofs.calls.Accepted.{AcceptedCall, accepted_by_checks, running_if_passed}

step_last : (b : Book) (c g : ℕ) (R : Opened) → g ≢ c → (step_book b c R).last g ≡ b.last g
unfolding step_book
step_last b c g none other = refl
step_last b c g (opened r list s) other = go (eqb (suc s) (counts_at (length (list_prices list))))
  where
    go : (counts : Bool) → (cond counts (count b c r list) b).last g ≡ b.last g
    go true = update_other b.last c r g other
    go false = refl

module _ (d : Directory) (m : List ℕ) (b : Book) (rack : RunningRack d m b) (c : ℕ) (passed : StepPassed d m c) where
  pub step_runs : RunningRack d (step_memory d (backup_of d c) m c) (step_book b c (b.release c))
  step_runs = go (b.release c) refl
    where
      go : (R : Opened) → b.release c ≡ R → RunningRack d (step_memory d (backup_of d c) m c) (step_book b c R)
      go none is = absurd (true≢false (sym passed.is_open ∙ idle_word d m b rack c passed.live is))
      go (opened r list s) is =
          runs_on d m b rack _ _ (step_core d (backup_of d) _ _ _ m b rack.core c passed.live r list s is)
          (λ g dead. step_last b c g (opened r list s) (λ same. true≢false (sym passed.live ∙ (rw same at dead))))

module _ (d : Directory) (m : List ℕ) (b : Book) (offline : ℕ → Bool) (rack : Rack d m b)
    (online : LiveOnline d offline) where
  pub step-accepted : (c : ℕ) → accepted (step d m c).outcome ≡ true
      → AcceptedCall (make_step c) offline b (step d m c)
  unfolding step Conforms transition offline_after
  step-accepted c =
      accepted_by_checks d m b offline rack online (make_step c) (step_checks d m c) 0 _ [] refl refl
      (λ p.
      let passed = step_passed d m c p in
      record {
        conforms = tt;
        rack = inl (step_runs d m b (running_if_passed d m b offline rack online passed.runs) c passed);
        online = online;
      })
