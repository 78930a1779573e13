-- A join reads nothing past a directory's cards and pages, and keeps what stands there.
use Rattle.std.specs.Prelude.{ℕ, ◌<◌, ◌≡◌, List, [], Bool, true}
use Rattle.laws.proofs.Prelude.{refl, ap, leb-false}
use Rattle.laws.proofs.Search.{some_agree, in_turn_agree}
use Rattle.answer.specs.Outcome.{card_live, join_while_open}
use Rattle.directory.specs.declared.Directory.{Directory}
use Rattle.area.specs.Prelude.{write_own_record}
use Rattle.protocol.specs.Release.{size_of}
use Rattle.protocol.specs.Checks.{check}
use Rattle.protocol.specs.Join.{join_checks, reset_area, copy_dead_record, backup_is, joined_memory, join}
use Rattle.protocol.specs.PastLimits.{below_limits}
use Rattle.protocol.proofs.checks.Outcome.{more, none, SameChecks}
use Rattle.protocol.proofs.past_limits.Directory.{live_below, open_below, next_below, backup_below}
use Rattle.protocol.proofs.past_limits.Changes.{marked_same, marked_kept}
use Rattle.protocol.proofs.past_limits.Checks.{running_then}
use Rattle.protocol.proofs.past_limits.Call.{CallBelow, below_by_checks}

module _ (d : Directory) (x : ℕ) where
  -- ---- the memory

  reset_below : (m : List ℕ) → reset_area (below_limits d) x m ≡ reset_area d x m
  unfolding reset_area
  reset_below m = rw (next_below d x)

  dead_below : (c : ℕ) → c < d.cards → (m : List ℕ) → copy_dead_record (below_limits d) x c m ≡ copy_dead_record d x c m
  unfolding copy_dead_record
  dead_below c real m = rw (live_below d c real, next_below d c)

  own_below : (c : ℕ) → c < d.cards → (m : List ℕ)
      → write_own_record (size_of d) (backup_is (below_limits d) x) (λ c. x) c m
      ≡ write_own_record (size_of d) (backup_is d x) (λ c. x) c m
  unfolding write_own_record
  own_below c real m = rw (live_below d c real, backup_below d x c)

  joined_below : (m : List ℕ) → joined_memory (below_limits d) x m ≡ joined_memory d x m
  unfolding joined_memory
  joined_below m =
      rw (reset_below m, in_turn_agree _ _ d.cards dead_below (reset_area d x m))
      (in_turn_agree _ _ d.cards own_below _)

  -- ---- the call

  checks_below : (m : List ℕ) → SameChecks (join_checks (below_limits d) m x) (join_checks d m x)
  checks_below m =
      running_then d m
      (more refl (λ real.
      more (ap (λ (up : Bool). check up card_live) (live_below d x (leb-false d.cards x real))) (λ _.
      more
      (ap (λ (some : Bool). check some join_while_open) (some_agree _ _ d.cards (open_below d (size_of d) m)))
      (λ _. none))))

  pub join_below : (m : List ℕ) → CallBelow d (join (below_limits d) m x) (join d m x)
  unfolding join
  join_below m =
      below_by_checks d m _ _ [] (checks_below m) refl refl refl (λ _. refl)
      (λ p.
      record {
        directory = marked_same d x true d.status;
        memory = joined_below m;
        words = refl;
        kept = marked_kept d x true (leb-false d.cards x p.1.1.1.0);
      })
