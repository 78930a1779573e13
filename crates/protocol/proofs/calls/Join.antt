-- An accepted join leaves a rack that runs, beside the same book.
use Rattle.std.specs.Prelude.{ℕ, ◌<◌, ◌≡◌, List, [], Bool, true, false}
use Rattle.laws.proofs.Prelude.{refl, sym, ◌∙◌, inl, ℕ_discrete, dec_lt}
use Rattle.directory.specs.declared.Directory.{Directory}
use Rattle.directory.specs.Directory.{is_live, marked_live}
use Rattle.directory.proofs.Changes.{live_of_other}
use Rattle.area.specs.Prelude.{has_open_release}
use Rattle.protocol.specs.Release.{size_of}
use Rattle.protocol.specs.Result.{accepted}
use Rattle.protocol.specs.Join.{join, join_checks}
use Rattle.protocol.specs.Calls.{join_card}
use Rattle.protocol.specs.Book.{Book, none, transition, update}
use Rattle.protocol.specs.Demand3.{offline_after, Conforms}
use Rattle.protocol.proofs.book.Changes.{update_same, update_other}
use Rattle.protocol.proofs.invariant.Rack.{RunningRack, Rack, LiveOnline}
use Rattle.protocol.proofs.join.Rack.{joins}
use Rattle.protocol.proofs.checks.ByCall.{join_passed}
use Rattle.protocol.proofs.invariant.Running.{none_if_idle}
use Rattle.protocol.proofs.calls.Accepted.{AcceptedCall, accepted_by_checks, running_if_passed}

module _ (d : Directory) (m : List ℕ) (b : Book) (offline : ℕ → Bool) (rack : Rack d m b)
    (online : LiveOnline d offline) where
  pub join-accepted : (x : ℕ) → accepted (join d m x).outcome ≡ true
      → AcceptedCall (join_card x) offline b (join d m x)
  unfolding join Conforms transition offline_after
  join-accepted x =
      accepted_by_checks d m b offline rack online (join_card x) (join_checks d m x) 0 _ [] refl refl
      (λ p.
      let passed = join_passed d m x p in
      let runs = running_if_passed d m b offline rack online passed.runs in
      record {
        conforms = tt;
        rack = inl (joins d x m b runs passed.dead passed.below (idle runs passed.none_open));
        online = still_online;
      })
    where
      idle : RunningRack d m b → ((c : ℕ) → c < d.cards → has_open_release d.live (size_of d) m c ≡ false) → (c : ℕ)
          → b.release c ≡ none
      idle runs closed c =
          elim (dec_lt c d.cards) [
            | yes real ↦ none_if_idle d m b runs c (closed c real)
            | no past ↦ go (is_live d c) refl
          ]
        where
          go : (up : Bool) → is_live d c ≡ up → b.release c ≡ none
          go true live = none_if_idle d m b runs c (closed c (runs.core.shape.below c live))
          go false dead = runs.core.gone c dead

      still_online : (c : ℕ) → is_live (marked_live d x) c ≡ true → update offline x false c ≡ false
      still_online c live =
          elim (ℕ_discrete c x) [
            | yes same ↦ rw same (update_same offline x false)
            | no other ↦ update_other offline x false c other ∙ online c (sym (live_of_other d x true c other) ∙ live)
          ]
