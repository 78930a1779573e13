-- The records after a recovery: the failed card's on every live card, and that of each card whose backup it was on the
-- card's new backup. Own words, pages and the other records stay as they were.
use Rattle.std.specs.Prelude.{ℕ, ◌+◌, ◌<◌, ◌≡◌, ◌≢◌, List, Bool, true, false, length}
use Rattle.laws.proofs.Prelude.{refl, sym, ◌∙◌, true≢false, arith, ℕ_discrete, eq-eqb, eqb-true}
use Rattle.laws.specs.Search.{in_turn}
use Rattle.laws.proofs.Bools.{and_first, and_second}
use Rattle.directory.specs.declared.Directory.{Directory}
use Rattle.directory.specs.Directory.{is_live, backup_of, marked_live}
use Rattle.directory.specs.NewHome.{HomeRule, NamesLive}
use Rattle.directory.proofs.Live.{next_live_kept}
use Rattle.area.specs.Prelude.{load, page_at, records_start, stored_page_size, Release, own_release, write_own_record}
use Rattle.area.proofs.Prelude.{own_words_kept, In, record_region, records_apart}
use Rattle.protocol.specs.Release.{size_of}
use Rattle.protocol.specs.Recovery.{backup_before, close_releases, restored_memory, copy_to_new_homes, failed_release}
use Rattle.protocol.specs.Recovery.{write_failed, backup_was, write_records}
use Rattle.protocol.specs.Book.{none, Book, count_open, clear_open}
use Rattle.protocol.proofs.release.Shape.{Shape, area_of_live, shape_kept}
use Rattle.protocol.proofs.records.Recorded.{Recorded, recorded_kept}
use Rattle.protocol.proofs.records.Failed.{FailedBelow, failed_below}
use Rattle.protocol.proofs.records.Own.{OwnBelow, own_below}
use Rattle.protocol.proofs.invariant.Rack.{AwaitingRack, next_is_live, unmarked}
use Rattle.protocol.proofs.recovery.BeforeRecords as before_records

-- the memory with the records written, beside that with the releases closed and that with the pages copied
pub record RecordsWritten (d : Directory) (b : Book) (memory_closed memory_copied memory_recorded : List ℕ) : Type 0 where
  pub same_length : length memory_recorded ≡ length memory_closed
  pub own_word : (c o : ℕ) → o < records_start → load (size_of d) memory_recorded c o ≡ load (size_of d) memory_closed c o
  pub word_in_page : (h p o : ℕ) → p < d.pages → o < stored_page_size
      → load (size_of d) memory_recorded h (page_at p + o) ≡ load (size_of d) memory_copied h (page_at p + o)
  -- a live card's record stands on its backup, a dead card's on every live card
  pub live_recorded : (c : ℕ) → is_live d c ≡ true
      → Recorded c none (b.last c) (load (size_of d) memory_recorded (backup_of d c))
  pub dead_recorded : (g h : ℕ) → is_live d g ≡ false → g < d.cards → is_live d h ≡ true
      → Recorded g none (b.last g) (load (size_of d) memory_recorded h)

module _ (d : Directory) (f : ℕ) (m : List ℕ) (b : Book) (rack : AwaitingRack d f m b) (rule : HomeRule)
    (good : NamesLive rule) where
  abbrev book_after : Book
  book_after = clear_open (count_open b)

  abbrev memory_closed : List ℕ
  memory_closed = close_releases d f m

  abbrev memory_copied : List ℕ
  memory_copied = copy_to_new_homes rule d f (restored_memory d f m)

  abbrev r : Release
  r = failed_release d f m

  abbrev memory_failed : List ℕ
  memory_failed = in_turn (write_failed d f r) d.cards memory_copied

  abbrev memory_recorded : List ℕ
  memory_recorded = in_turn (write_own_record (size_of d) (backup_was d f) (backup_of d)) d.cards memory_failed

  few : f < 8
  few = before_records.few d f m b rack

  copied_shape : Shape d memory_copied
  copied_shape =
      shape_kept (before_records.closed d f m b rack).shape memory_copied
      (before_records.pages_length d f m b rack rule good)

  failed : FailedBelow d f r d.cards memory_copied memory_failed
  failed =
      failed_below d f r few
      (rw (before_records.answers d f m b rack) (rack.core.last_eight f)) memory_copied copied_shape
      d.cards

  backups : (c : ℕ) → is_live d (backup_of d c) ≡ true
  backups c = next_is_live d rack.two rack.core.shape.below c

  -- own stamp and desk are as they were when the releases were closed
  own_still : (c : ℕ) → own_release (size_of d) memory_failed c ≡ own_release (size_of d) memory_closed c
  own_still c =
      own_words_kept (size_of d) memory_closed memory_failed c
      (failed.same_length ∙ before_records.pages_length d f m b rack rule good)
      (λ o small. failed.same c o (omega arith) (λ here. omega arith)
      ∙ before_records.low_kept d f m b rack rule good c o (omega arith))

  own_last : (c : ℕ) → is_live d c ≡ true → own_release (size_of d) memory_closed c ≡ book_after.last c
  own_last c live = (before_records.closed d f m b rack).owns c live

  -- the cards whose records are due
  due_live : (c : ℕ) → backup_was d f c ≡ true → is_live d c ≡ true
  due_live c due = and_first (is_live d c) _ due

  due_his : (c : ℕ) → backup_was d f c ≡ true → backup_before d f c ≡ f
  due_his c due = eqb-true (backup_before d f c) f (and_second (is_live d c) _ due)

  is_due : (c : ℕ) → is_live d c ≡ true → backup_before d f c ≡ f → backup_was d f c ≡ true
  is_due c live his = rw (live, eq-eqb (backup_before d f c) f his)

  not_due : (g : ℕ) → (is_live d g ≡ true → backup_before d f g ≢ f) → backup_was d f g ≡ false
  not_due g not-his = go (backup_was d f g) refl
    where
      go : (due : Bool) → backup_was d f g ≡ due → backup_was d f g ≡ false
      go true due = absurd (not-his (due_live g due) (due_his g due))
      go false due = due

  small : (c : ℕ) → is_live d c ≡ true → c < 8
  small c live = omega (arith, rack.core.shape.below c live, rack.core.shape.few_cards)

  backed : OwnBelow (size_of d) (backup_was d f) (backup_of d) d.cards memory_failed memory_recorded
  backed =
      own_below (size_of d) (omega arith) (backup_was d f) (backup_of d) memory_failed (λ c due. small c (due_live c due))
      (λ c due. area_of_live (shape_kept copied_shape memory_failed failed.same_length) (backup_of d c) (backups c))
      (λ c due. rw (own_still c, own_last c (due_live c due)) ((before_records.closed d f m b rack).last_eight c))
      d.cards

  own_word : (c o : ℕ) → o < records_start → load (size_of d) memory_recorded c o ≡ load (size_of d) memory_closed c o
  own_word c o low =
      backed.low c o low ∙ failed.same c o (omega arith) (λ here. omega arith)
      ∙ before_records.low_kept d f m b rack rule good c o (omega arith)

  word_in_page : (h p o : ℕ) → p < d.pages → o < stored_page_size
      → load (size_of d) memory_recorded h (page_at p + o) ≡ load (size_of d) memory_copied h (page_at p + o)
  word_in_page h p o page within =
      backed.high h _ (omega arith) (omega arith) ∙ failed.same h _ (omega arith) (λ here. omega (arith, few))

  -- a record that is not written
  other_record : (g h o : ℕ) → g < 8 → g ≢ f → (is_live d g ≡ true → backup_before d f g ≢ f) → In (record_region g) o
      → load (size_of d) memory_recorded h o ≡ load (size_of d) memory_closed h o
  other_record g h o little other not-his in-record =
      backed.records g h o little (not_due g not-his) in-record
      ∙ failed.same h o (omega arith) (records_apart other in-record)
      ∙ before_records.low_kept d f m b rack rule good h o (omega arith)

  -- a card whose backup was not f has the same backup still
  same_backup : (c : ℕ) → backup_before d f c ≢ f → backup_of d c ≡ backup_before d f c
  same_backup c other =
      let marks = unmarked d.live f false rack.lost true in
      (rw marks at (next_live_kept (marked_live d f).live d.cards c f other))

  -- a live card's record stands on its backup
  live_recorded : (c : ℕ) → is_live d c ≡ true
      → Recorded c none (book_after.last c) (load (size_of d) memory_recorded (backup_of d c))
  live_recorded c live =
      elim (ℕ_discrete (backup_before d f c) f) [
        | yes his ↦ rw (← (own_last c live), ← (own_still c))
            (backed.recorded c (rack.core.shape.below c live) (is_due c live his))
        | no other ↦
            rw (same_backup c other)
            (recorded_kept c none (book_after.last c) _ _
            (λ o in-record. other_record c _ o (small c live) (not-failed c live) (λ _. other) in-record)
            ((before_records.closed d f m b rack).recorded c live (rw (← (same_backup c other)) (backups c))))
      ]
    where
      not-failed : (c : ℕ) → is_live d c ≡ true → c ≢ f
      not-failed c live same = true≢false (sym live ∙ rw same rack.lost)

  -- a dead card's record stands on every live card
  dead_recorded : (g h : ℕ) → is_live d g ≡ false → g < d.cards → is_live d h ≡ true
      → Recorded g none (book_after.last g) (load (size_of d) memory_recorded h)
  dead_recorded g h dead less live =
      elim (ℕ_discrete g f) [
        | yes same ↦
            rw (same, before_records.last_same d f m b rack f rack.lost, ← (before_records.answers d f m b rack))
            (recorded_kept f none r _ _
            (λ o in-record. backed.records f h o few (not_due f (λ up. absurd (true≢false (sym up ∙ rack.lost))))
            in-record)
            (failed.recorded h (rack.core.shape.below h live) live))
        | no other ↦
            rw (before_records.last_same d f m b rack g dead)
            (recorded_kept g none (b.last g) _ _
            (λ o in-record.
            other_record g h o (omega (arith, rack.core.shape.few_cards)) other
            (λ up. absurd (true≢false (sym up ∙ dead)))
            in-record
            ∙ (before_records.closed d f m b rack).dead g h o dead less live in-record)
            (rack.records g h dead other less live))
      ]

  pub records_written : RecordsWritten d book_after memory_closed memory_copied (write_records d f r memory_copied)
  unfolding write_records
  records_written =
      record {
        same_length = backed.same_length ∙ failed.same_length ∙ before_records.pages_length d f m b rack rule good;
        own_word = own_word;
        word_in_page = word_in_page;
        live_recorded = live_recorded;
        dead_recorded = dead_recorded;
      }
