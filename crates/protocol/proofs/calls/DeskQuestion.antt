-- An accepted desk question on a card with none open answers the desk of its last release.
use Rattle.std.specs.Prelude.{ℕ, ◌≡◌, List, Bool, true, false, cond, ◌<◌}
use Rattle.laws.proofs.Prelude.{refl, ap, arith}
use Rattle.directory.specs.declared.Directory.{Directory}
use Rattle.directory.specs.Directory.{is_live, next_live_of}
use Rattle.area.specs.Prelude.{Release, own_release, recorded_release}
use Rattle.area.proofs.Prelude.{recorded_is}
use Rattle.protocol.specs.Release.{size_of}
use Rattle.protocol.specs.Book.{none, Book, transition}
use Rattle.protocol.specs.Calls.{ask_desk}
use Rattle.protocol.specs.DeskQuestion.{desk_of, desk_question, desk_checks}
use Rattle.protocol.specs.Result.{accepted}
use Rattle.protocol.specs.Demand3.{offline_after, Conforms}
use Rattle.protocol.proofs.invariant.Rack.{RunningRack, next_is_live, Rack, LiveOnline}
use Rattle.protocol.proofs.release.Shape.{area_of_live}
use Rattle.protocol.proofs.invariant.Running.{own_is_last}
use Rattle.protocol.proofs.checks.ByCall.{desk_passed}
use Rattle.protocol.proofs.calls.Accepted.{AcceptedCall, accepted_by_checks, running_if_passed}

module _ (d : Directory) (m : List ℕ) (b : Book) (rack : RunningRack d m b) where
  dead_release : (c : ℕ) → c < d.cards → is_live d c ≡ false
      → recorded_release (size_of d) m (next_live_of d c) c ≡ b.last c
  dead_release c real dead =
      let up : is_live d (next_live_of d c) ≡ true = next_is_live d rack.two rack.core.shape.below c in
      let recorded = rack.records c (next_live_of d c) dead real up in
      recorded_is (size_of d) m (next_live_of d c) c (b.last c) (area_of_live rack.core.shape (next_live_of d c) up)
      (omega arith) (omega (arith, rack.core.shape.few_cards)) (rack.core.last_eight c) recorded.stamped
      recorded.desked

  pub desk_conforms : (c : ℕ) → c < d.cards → b.release c ≡ none → desk_of d m c ≡ (b.last c).desk
  unfolding desk_of
  desk_conforms c real idle = go (is_live d c) refl
    where
      go : (up : Bool) → is_live d c ≡ up
          → cond up (own_release (size_of d) m c).desk (recorded_release (size_of d) m (next_live_of d c) c).desk ≡ (b.last
          c).desk
      go true live = ap (λ (r : Release). r.desk) (own_is_last d m b rack c live idle)
      go false dead = ap (λ (r : Release). r.desk) (dead_release c real dead)

module _ (d : Directory) (m : List ℕ) (b : Book) (offline : ℕ → Bool) (rack : Rack d m b)
    (online : LiveOnline d offline) where
  pub desk-accepted : (c : ℕ) → accepted (desk_question d m c).outcome ≡ true
      → AcceptedCall (ask_desk c) offline b (desk_question d m c)
  unfolding desk_question Conforms transition offline_after
  desk-accepted c =
      accepted_by_checks d m b offline rack online (ask_desk c) (desk_checks d m c) 0 _ _ refl refl
      (λ p.
      let runs = desk_passed d m c p in
      record {
        conforms = desk_conforms d m b (running_if_passed d m b offline rack online runs.0) c runs.1;
        rack = rack;
        online = online;
      })
