-- The invariant between two calls: what a call finds is as good as what the last call left, whatever the areas of
-- cards that are offline hold.
use Rattle.std.specs.Prelude.{ℕ, ◌≤◌, ◌<◌, ◌≡◌, List, Bool, true}
use Rattle.laws.proofs.Prelude.{refl, ◌∙◌, inl, inr, arith}
use Rattle.directory.specs.declared.Directory.{Directory}
use Rattle.directory.specs.Directory.{is_live, next_live_of, backup_of}
use Rattle.area.specs.Prelude.{load, record_stamp, record_done}
use Rattle.area.proofs.Prelude.{number_kept, In, record_region, stamp_in, done_in, desk_in}
use Rattle.protocol.specs.Release.{size_of}
use Rattle.protocol.specs.Recovery.{backup_before}
use Rattle.protocol.specs.Book.{none, Book}
use Rattle.protocol.specs.Demand3.{Interference}
use Rattle.protocol.proofs.records.Recorded.{Recorded, recorded_kept}
use Rattle.protocol.proofs.invariant.Core.{Core}
use Rattle.protocol.proofs.invariant.Kept.{SameLive, core_found}
use Rattle.protocol.proofs.invariant.Rack.{RunningRack, AwaitingRack, stamp_of, done_of, next_is_live, Rack}
use Rattle.protocol.proofs.invariant.Rack.{LiveOnline}

-- the records of dead cards, as memory has them
pub core_now : {d : Directory} {backup : ℕ → ℕ} {old : ℕ → ℕ → ℕ} {T C : Type 0} {m : List ℕ} {b : Book}
    → Core d backup old T C m b → Core d backup (load (size_of d) m) T C m b
core_now core =
    record {
      shape = core.shape;
      standing = core.standing;
      gone = core.gone;
      under = core.under;
      eights = core.eights;
      last_eight = core.last_eight;
      disjoint = core.disjoint;
      numbers = core.numbers;
      owns = core.owns;
      tentative = core.tentative;
      committed = core.committed;
      recorded = core.recorded;
      dead = λ g h o gone less live in-record. refl;
    }

module _ (d : Directory) (left found : List ℕ) (b : Book) (agree : SameLive d left found) where
  record_found : d.cards ≤ 8 → (g h : ℕ) → g < d.cards → is_live d h ≡ true
      → Recorded g none (b.last g) (load (size_of d) left h) → Recorded g none (b.last g) (load (size_of d) found h)
  record_found few g h real live recorded =
      recorded_kept g none _ _ _ (λ o in-record. agree.same h o live (omega arith)) recorded

  running_found : RunningRack d left b → RunningRack d found b
  running_found rack =
      record {
        running = rack.running;
        arrays = rack.arrays;
        core = core_now (core_found d (backup_of d) _ _ _ _ _ left found b agree (λ t. t) (λ t. t) rack.core);
        records = λ g h dead real live.
            record_found rack.core.shape.few_cards g h real live (rack.records g h dead real live);
        two = rack.two;
        primary_live = rack.primary_live;
        secondary_live = rack.secondary_live;
        homes_differ = rack.homes_differ;
      }

  awaiting_found : (f : ℕ) → AwaitingRack d f left b → AwaitingRack d f found b
  awaiting_found f rack =
      record {
        awaiting = rack.awaiting;
        arrays = rack.arrays;
        lost = rack.lost;
        real = rack.real;
        failed = rack.failed;
        core = rw (stamp, done)
            (core_now (core_found d (backup_before d f) _ _ _ _ _ left found b agree (λ t. t) (λ t. t) rack.core));
        records = λ g h dead other real live.
            record_found rack.core.shape.few_cards g h real live
            (rack.records g h dead other real live);
        stamped = stamp ∙ rack.stamped;
        desked = λ j within. word _ (desk_in f (b.last f).number j within) ∙ rack.desked j within;
        two = rack.two;
        primary_live = rack.primary_live;
        secondary_live = rack.secondary_live;
        homes_differ = rack.homes_differ;
      }
    where
      word : (o : ℕ) → In (record_region f) o
          → load (size_of d) found (next_live_of d f) o ≡ load (size_of d) left (next_live_of d f) o
      word o in-record =
          agree.same (next_live_of d f) o (next_is_live d rack.two rack.core.shape.below f)
          (omega (arith, rack.real, rack.core.shape.few_cards))

      stamp : stamp_of d f found ≡ stamp_of d f left
      stamp = number_kept _ (record_stamp f) _ (λ j within. word _ (stamp_in f j within))

      done : done_of d f found ≡ done_of d f left
      done = number_kept _ (record_done f) _ (λ j within. word _ (done_in f j within))

  pub rack_found : Rack d left b → Rack d found b
  rack_found (inl rack) = inl (running_found rack)
  rack_found (inr rack) = inr (rack.0, awaiting_found rack.0 rack.1)

-- the cards that a rack has live are below its number of cards
pub rack_below : {d : Directory} {m : List ℕ} {b : Book} → Rack d m b → (c : ℕ) → is_live d c ≡ true → c < d.cards
rack_below (inl rack) = rack.core.shape.below
rack_below (inr rack) = rack.1.core.shape.below

pub interference_live : {d : Directory} {offline : ℕ → Bool} {left found : List ℕ} {b : Book} → Rack d left b
    → LiveOnline d offline
    → Interference d offline left found → SameLive d left found
interference_live rack online interference =
    record {
      same_length = interference.same_length;
      same = λ h o live within. interference.words_same h o (rack_below rack h live) within (online h live);
    }
