-- A directory with one card more marked live, as before its failure or after its join: what recovery and join write by
-- it.
use Rattle.std.specs.Prelude.{ℕ, ◌<◌, ◌≡◌, List, Bool, true, false, cond, length}
use Rattle.laws.proofs.Prelude.{refl, ◌∙◌, ℕ_discrete, eqb-true}
use lib.ListN.{length-set}
use Rattle.laws.specs.Search.{in_turn}
use Rattle.laws.proofs.Bools.{and_second}
use Rattle.directory.specs.declared.Directory.{Directory}
use Rattle.directory.specs.Directory.{header_of, is_live, backup_of, marked_live}
use Rattle.directory.proofs.Changes.{live_of_marked_live, live_of_other}
use Rattle.area.specs.Prelude.{Release, own_release, settled_record, write_record, write_own_record}
use Rattle.protocol.specs.Release.{size_of}
use Rattle.protocol.specs.Recovery.{write_failed, write_records}
use Rattle.protocol.specs.Join.{reset_area, copy_dead_record, joined_memory}
use Rattle.recovery.specs.Rack.{RackIn, SomeLive, store_failed, backed_by}
use Rattle.recovery.proofs.Turns.{in_turn_same}

module _ (d : Directory) (x : ℕ) where
  abbrev marked : Directory
  marked = marked_live d x

  pub marked_rack : {words : ℕ} → RackIn d words → RackIn marked words
  marked_rack rack =
      record {
        few = rack.few;
        eight = rack.eight;
        marks = length-set d.live x true ∙ rack.marks;
        whole = rack.whole;
      }

  pub marked_some : SomeLive d → x < length d.live → SomeLive marked
  marked_some some low =
      record {
        card = some.card;
        below = some.below;
        up = elim (ℕ_discrete some.card x) [
          | yes same ↦ rw same (live_of_marked_live d x low)
          | no other ↦ live_of_other d x true some.card other ∙ some.up
        ];
      }

  -- ---- the records after a failure, by the directory before it

  pub records_by_marks : {before : Directory} {stored : List ℕ} (r : Release) (m : List ℕ) → before ≡ marked
      → stored ≡ in_turn (store_failed (header_of d) x (settled_record r)) d.cards m
      → in_turn (write_own_record (size_of d) (backed_by d.live before x) (backup_of d)) d.cards stored
      ≡ write_records d x r m
  unfolding write_records write_failed write_record
  records_by_marks r m is wrote = rw (is, wrote)

  -- ---- the memory after a join, by the directory after it

  -- where a record is due, its holder is the card that joins
  same_holder : (c : ℕ) (m : List ℕ)
      → write_own_record (size_of d) (backed_by d.live marked x) (backup_of marked) c m
      ≡ write_own_record (size_of d) (backed_by d.live marked x) (λ _. x) c m
  unfolding write_own_record
  same_holder c m = go (backed_by d.live marked x c) refl
    where
      go : (due : Bool) → backed_by d.live marked x c ≡ due
          → cond due (write_record (size_of d) m (backup_of marked c) c (own_release (size_of d) m c)) m
          ≡ cond due (write_record (size_of d) m x c (own_release (size_of d) m c)) m
      go true due = rw (eqb-true (backup_of marked c) x (and_second (is_live d c) _ due))
      go false _ = refl

  pub joined_by_marks : (m : List ℕ)
      → in_turn (write_own_record (size_of d) (backed_by d.live marked x) (backup_of marked)) d.cards
      (in_turn (copy_dead_record d x) d.cards (reset_area d x m))
      ≡ joined_memory d x m
  unfolding joined_memory
  joined_by_marks m = in_turn_same _ _ same_holder d.cards _
