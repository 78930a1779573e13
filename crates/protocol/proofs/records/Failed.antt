-- The failed card's record, written on every live card.
use Rattle.std.specs.Prelude.{ℕ, zero, suc, ◌<◌, ◌≡◌, List, Bool, true, false, cond, length}
use Rattle.laws.proofs.Prelude.{refl, sym, ◌∙◌, inl, inr, true≢false, arith, ℕ_discrete}
use Rattle.laws.specs.Search.{in_turn}
use Rattle.directory.specs.declared.Directory.{Directory}
use Rattle.directory.specs.Directory.{is_live}
use Rattle.area.specs.Prelude.{load, Release, write_record, desk_size}
use Rattle.area.proofs.Prelude.{length_record, load_beside_record, NotIn, record_region}
use Rattle.protocol.specs.Release.{size_of}
use Rattle.protocol.specs.Recovery.{write_failed}
use Rattle.protocol.specs.Book.{none}
use Rattle.protocol.proofs.release.Shape.{Shape, area_of_live, shape_kept}
use Rattle.protocol.proofs.records.Recorded.{Recorded, recorded_kept}
use Rattle.protocol.proofs.records.Settled.{settled_recorded}

-- ---- the failed card's record

-- on the live cards below n; no other word changes
pub record FailedBelow (d : Directory) (f : ℕ) (r : Release) (n : ℕ) (m m' : List ℕ) : Type 0 where
  pub same_length : length m' ≡ length m
  pub same : (h o : ℕ) → o < size_of d → NotIn (record_region f) o
      → load (size_of d) m' h o ≡ load (size_of d) m h o
  pub recorded : (h : ℕ) → h < n → is_live d h ≡ true → Recorded f none r (load (size_of d) m' h)

module _ (d : Directory) (f : ℕ) (r : Release) (few : f < 8) (eight : length r.desk ≡ desk_size) (m : List ℕ)
    (shape : Shape d m) where
  failed_more : (n : ℕ) (m' : List ℕ) → FailedBelow d f r n m m' → FailedBelow d f r (suc n) m (write_failed d f r n m')
  unfolding write_failed
  failed_more n m' below = go (is_live d n) refl
    where
      go : (up : Bool) → is_live d n ≡ up → FailedBelow d f r (suc n) m (cond up (write_record (size_of d) m' n f r) m')
      go true live =
          record {
            same_length = length_record (size_of d) m' n f r (omega arith) few eight ∙ below.same_length;
            same = λ h o inside elsewhere.
                load_beside_record (size_of d) m' n f r (omega arith) few eight h o inside (inr elsewhere)
                ∙ below.same h o inside elsewhere;
            recorded = λ h small up. at h small up (ℕ_discrete h n);
          }
        where
          at : (h : ℕ) → h < suc n → is_live d h ≡ true → Dec (h ≡ n)
              → Recorded f none r (load (size_of d) (write_record (size_of d) m' n f r) h)
          at h small up (yes same) =
              rw same
              (settled_recorded (size_of d) m' n f r (omega arith) few eight
              (area_of_live (shape_kept shape m' below.same_length) n live))
          at h small up (no other) =
              recorded_kept f none r _ _
              (λ o in-record. load_beside_record (size_of d) m' n f r (omega arith) few eight h o (omega arith)
              (inl other))
              (below.recorded h (omega arith) up)
      go false dead =
          record {
            same_length = below.same_length;
            same = below.same;
            recorded = λ h small up.
                elim (ℕ_discrete h n) [
                  | yes same ↦ absurd (true≢false (sym up ∙ rw same dead))
                  | no other ↦ below.recorded h (omega arith) up
                ];
          }

  pub failed_below : (n : ℕ) → FailedBelow d f r n m (in_turn (write_failed d f r) n m)
  unfolding in_turn
  failed_below zero =
      record { same_length = refl; same = λ h o inside elsewhere. refl; recorded = λ h small up. absurd (omega arith) }
  failed_below (suc n) = failed_more n _ (failed_below n)
