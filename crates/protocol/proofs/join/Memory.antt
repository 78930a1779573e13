-- The memory after a join: other cards' words as they were; on the card that joins its own stamp and desk, no open
-- release, the other dead cards' records and that of the live card whose backup it now is.
use Rattle.std.specs.Prelude.{ℕ, ◌<◌, ◌≡◌, ◌≢◌, List, true, false, length}
use Rattle.laws.proofs.Prelude.{sym, ◌∙◌, true≢false, arith, eq-eqb}
use Rattle.laws.specs.Search.{in_turn}
use Rattle.laws.proofs.Bools.{and_first, and_both}
use Rattle.directory.specs.declared.Directory.{Directory}
use Rattle.directory.specs.Directory.{is_live, next_live_of, backup_of, marked_live}
use Rattle.area.specs.Prelude.{load, open_flag, desk_size, own_release, recorded_release, write_own_record}
use Rattle.area.proofs.Prelude.{recorded_is, own_words_kept}
use Rattle.protocol.specs.Release.{size_of}
use Rattle.protocol.specs.Join.{reset_area, copy_dead_record, backup_is, joined_memory}
use Rattle.protocol.specs.Book.{none, Book}
use Rattle.protocol.proofs.release.Shape.{Shape, area_of, area_of_live, shape_kept}
use Rattle.protocol.proofs.records.Recorded.{Recorded, recorded_kept}
use Rattle.protocol.proofs.records.Own.{OwnBelow, own_below}
use Rattle.protocol.proofs.join.Area.{length_reset, reset_other, reset_zero, reset_own, CopiedBelow}
use Rattle.protocol.proofs.join.Area.{copied_below}
use Rattle.protocol.proofs.invariant.Rack.{RunningRack, next_is_live}

-- the memory m' after card x has joined
pub record Joined (d : Directory) (x : ℕ) (b : Book) (m m' : List ℕ) : Type 0 where
  pub same_length : length m' ≡ length m
  pub others : (h o : ℕ) → h ≢ x → o < size_of d → load (size_of d) m' h o ≡ load (size_of d) m h o
  pub own : own_release (size_of d) m' x ≡ b.last x
  pub shut : load (size_of d) m' x open_flag ≡ 0
  pub dead_recorded : (g : ℕ) → is_live d g ≡ false → g ≢ x → g < d.cards
      → Recorded g none (b.last g) (load (size_of d) m' x)
  pub backed_recorded : (c : ℕ) → is_live d c ≡ true → backup_of (marked_live d x) c ≡ x
      → Recorded c none (b.last c) (load (size_of d) m' x)

module _ (d : Directory) (x : ℕ) (m : List ℕ) (b : Book) (rack : RunningRack d m b) (dead : is_live d x ≡ false)
    (real : x < d.cards) (idle : (c : ℕ) → b.release c ≡ none) where
  abbrev reset_memory : List ℕ
  reset_memory = reset_area d x m

  abbrev copied_memory : List ℕ
  copied_memory = in_turn (copy_dead_record d x) d.cards reset_memory

  abbrev backed_memory : List ℕ
  backed_memory = in_turn (write_own_record (size_of d) (backup_is d x) (λ c. x)) d.cards copied_memory

  shape : Shape d m
  shape = rack.core.shape

  few : x < 8
  few = omega (arith, real, shape.few_cards)

  nexts : (g : ℕ) → is_live d (next_live_of d g) ≡ true
  nexts g = next_is_live d rack.two shape.below g

  -- x's record, at the next live after it
  x_recorded : Recorded x none (b.last x) (load (size_of d) m (next_live_of d x))
  x_recorded = rack.records x (next_live_of d x) dead real (nexts x)

  recorded : recorded_release (size_of d) m (next_live_of d x) x ≡ b.last x
  recorded =
      recorded_is (size_of d) m (next_live_of d x) x (b.last x) (area_of_live shape (next_live_of d x) (nexts x))
      (omega arith) few
      (rack.core.last_eight x) x_recorded.stamped x_recorded.desked

  eight : length (recorded_release (size_of d) m (next_live_of d x) x).desk ≡ desk_size
  eight = rw recorded (rack.core.last_eight x)

  reset_size : length reset_memory ≡ length m
  reset_size = length_reset d x m shape real eight

  copied : CopiedBelow d x d.cards reset_memory copied_memory
  copied =
      copied_below d x reset_memory (shape_kept shape reset_memory reset_size) real dead nexts d.cards (omega arith)

  -- every other card's words
  copied_others : (h o : ℕ) → h ≢ x → o < size_of d → load (size_of d) copied_memory h o ≡ load (size_of d) m h o
  copied_others h o other inside =
      copied.other_card h o other inside ∙ reset_other d x m shape real eight h o other inside

  small : (c : ℕ) → is_live d c ≡ true → c < 8
  small c live = omega (arith, shape.below c live, shape.few_cards)

  not_x : (h : ℕ) → is_live d h ≡ true → h ≢ x
  not_x h live same = true≢false (sym live ∙ rw same dead)

  copied_size : length copied_memory ≡ length m
  copied_size = copied.same_length ∙ reset_size

  copied_own : (c : ℕ) → is_live d c ≡ true → own_release (size_of d) copied_memory c ≡ b.last c
  copied_own c live =
      own_words_kept (size_of d) m copied_memory c copied_size (λ o less. copied_others c o (not_x c live) (omega arith))
      ∙ (rw (idle c) at (rack.core.owns c live))

  due_live : (c : ℕ) → backup_is d x c ≡ true → is_live d c ≡ true
  due_live c due = and_first (is_live d c) _ due

  backed : OwnBelow (size_of d) (backup_is d x) (λ c. x) d.cards copied_memory backed_memory
  backed =
      own_below (size_of d) (omega arith) (backup_is d x) (λ c. x) copied_memory (λ c due. small c (due_live c due))
      (λ c due. rw copied_size (area_of shape x real))
      (λ c due. rw (copied_own c (due_live c due)) (rack.core.last_eight c))
      d.cards

  others : (h o : ℕ) → h ≢ x → o < size_of d → load (size_of d) backed_memory h o ≡ load (size_of d) m h o
  others h o other inside = backed.elsewhere h o inside (λ c due. other) ∙ copied_others h o other inside

  -- ---- what stands on x

  own : own_release (size_of d) backed_memory x ≡ b.last x
  own =
      own_words_kept (size_of d) reset_memory backed_memory x (backed.same_length ∙ copied.same_length)
      (λ o less. backed.low x o (omega arith) ∙ copied.low o (omega arith))
      ∙ reset_own d x m shape real eight ∙ recorded

  shut : load (size_of d) backed_memory x open_flag ≡ 0
  shut =
      backed.low x open_flag (omega arith) ∙ copied.low open_flag (omega arith)
      ∙ reset_zero d x m shape real eight open_flag (omega arith) (omega arith)

  -- the record of another dead card
  dead_recorded : (g : ℕ) → is_live d g ≡ false → g ≢ x → g < d.cards
      → Recorded g none (b.last g) (load (size_of d) backed_memory x)
  dead_recorded g gone other less =
      recorded_kept g none (b.last g) _ _
      (λ o in-record.
      backed.records g x o (omega (arith, shape.few_cards)) (not_due g gone) in-record
      ∙ copied.copied g o less (omega (arith, shape.few_cards)) gone other in-record
      ∙ reset_other d x m shape real eight (next_live_of d g) o (not_x (next_live_of d g) (nexts g))
      (omega (arith, shape.few_cards)))
      (rack.records g (next_live_of d g) gone less (nexts g))
    where
      not_due : (g : ℕ) → is_live d g ≡ false → backup_is d x g ≡ false
      not_due g gone = rw gone

  -- the record of the card whose backup x now is
  backed_recorded : (c : ℕ) → is_live d c ≡ true → backup_of (marked_live d x) c ≡ x
      → Recorded c none (b.last c) (load (size_of d) backed_memory x)
  backed_recorded c live its =
      rw (← (copied_own c live))
      (backed.recorded c (shape.below c live) (and_both _ _ live (eq-eqb (backup_of (marked_live d x) c) x its)))

  pub joined : Joined d x b m (joined_memory d x m)
  unfolding joined_memory
  joined =
      record {
        same_length = backed.same_length ∙ copied_size;
        others = others;
        own = own;
        shut = shut;
        dead_recorded = dead_recorded;
        backed_recorded = backed_recorded;
      }
