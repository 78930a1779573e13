-- What a card's record on its backup says beside the book, and that a step keeps it so. `f o` is the word at offset o
-- of the backup's area.
use Rattle.std.specs.Prelude.{ℕ, suc, ◌+◌, ◌*◌, ◌≤◌, ◌<◌, ◌≡◌, ◌≢◌, List, [], ◌∷◌, length, get_or}
use Rattle.laws.proofs.Prelude.{refl, sym, ap, ◌∙◌, arith, ℕ_discrete}
use Rattle.directory.specs.declared.Directory.{Directory}
use Rattle.area.specs.Prelude.{record_stamp, record_done, record_desk, number_size, desk_size, Release, number_words}
use Rattle.area.specs.Prelude.{number_at}
use Rattle.area.proofs.Prelude.{length_number, number_kept, number_is, In, NotIn, record_region, stamp_in, done_in}
use Rattle.area.proofs.Prelude.{desk_in}
use Rattle.protocol.specs.Release.{Write, write_of, counts_at}
use Rattle.protocol.specs.Book.{Opened, none, opened, list_prices}
use Rattle.protocol.proofs.release.Writes.{Phase, phase, to_tentative, to_desk, to_stamp, to_committed, to_done}
use Rattle.protocol.proofs.release.Writes.{to_close, write_tentative, write_desk, write_stamp, write_committed}
use Rattle.protocol.proofs.release.Writes.{write_done}
use Rattle.protocol.proofs.release.WordAfter.{written_region, written, written_here, written_other_offset}
use Rattle.protocol.proofs.release.Step.{step_write}

-- ---- what the book's last number and desk of a card have to do with its open release

-- the last is the release's once it counts; before, the release's number is the next
abbrev pub Numbers : Opened → Release → Type 0
Numbers none last = Unit {0}
Numbers (opened r list s) last =
    (s < counts_at (length (list_prices list)) → r.number ≡ suc last.number)
    × (counts_at (length (list_prices list)) ≤ s → last ≡ r)

-- the card's own stamp and desk
abbrev pub Own : Opened → Release → Release → Type 0
Own none own last = own ≡ last
Own (opened r list s) own last = r.number ≡ suc own.number

-- the done mark is behind the stamp while the second phase is under way
abbrev pub Done : Opened → ℕ → ℕ → Type 0
Done none done stamp = done ≡ stamp
Done (opened r list s) done stamp =
    (s < counts_at (length (list_prices list)) → done ≡ stamp)
    × (counts_at (length (list_prices list)) ≤ s → s < 4 * length (list_prices list) + 10 → suc done ≡ stamp)
    × (4 * length (list_prices list) + 10 ≤ s → done ≡ stamp)

-- the desk words of an uncounted release that are written already
abbrev pub Parts : ℕ → Opened → (ℕ → ℕ) → Type 0
Parts c none f = Unit {0}
Parts c (opened r list s) f =
    (j : ℕ) → j < desk_size → 2 * length (list_prices list) + j < s → s < counts_at (length (list_prices list))
    → f (record_desk c r.number + j) ≡ get_or r.desk j 0

pub record Recorded (c : ℕ) (R : Opened) (last : Release) (f : ℕ → ℕ) : Type 0 where
  pub stamped : number_at f (record_stamp c) ≡ last.number
  pub desked : (j : ℕ) → j < desk_size → f (record_desk c last.number + j) ≡ get_or last.desk j 0
  pub done : Done R (number_at f (record_done c)) last.number
  pub parts : Parts c R f

-- words of the record, and only those, matter
pub recorded_kept : (c : ℕ) (R : Opened) (last : Release) (f f' : ℕ → ℕ)
    → ((o : ℕ) → In (record_region c) o → f' o ≡ f o) → Recorded c R last f → Recorded c R last f'
recorded_kept c R last f f' same recorded =
    record {
      stamped = number_kept f (record_stamp c) f' (λ j within. same _ (stamp_in c j within)) ∙ recorded.stamped;
      desked = λ j within. same _ (desk_in c last.number j within) ∙ recorded.desked j within;
      done = rw (number_kept f (record_done c) f' (λ j within. same _ (done_in c j within))) recorded.done;
      parts = go R recorded.parts;
    }
  where
    go : (R : Opened) → Parts c R f → Parts c R f'
    go none parts = tt
    go (opened r list s) parts = λ j within written early.
        same _ (desk_in c r.number j within) ∙ parts j within written early

-- ---- a step

-- the card's last release after a step
pub record LastAfter (k s : ℕ) (r last last' : Release) : Type 0 where
  pub counts : suc s ≡ counts_at k → last' ≡ r
  pub plain : suc s ≢ counts_at k → last' ≡ last

module _ (r : Release) (list : List ℕ) (s : ℕ) (last last' : Release)
    (after : LastAfter (length (list_prices list)) s r last last') (numbers : Numbers (opened r list s) last) where
  pub step_numbers : Numbers (opened r list (suc s)) last'
  step_numbers = ((λ early. rw (after.plain (omega arith)) (numbers.0 (omega arith))), late)
    where
      late : counts_at (length (list_prices list)) ≤ suc s → last' ≡ r
      late past =
          elim (ℕ_discrete (suc s) (counts_at (length (list_prices list)))) [
            | yes counts ↦ after.counts counts
            | no plain ↦ after.plain plain ∙ numbers.1 (omega arith)
          ]

  module _ (d : Directory) (backup c : ℕ) (few : c < 8) (eight : length r.desk ≡ desk_size)
      (before : s < 4 * length (list_prices list) + 10) (f f' : ℕ → ℕ)
      (wrote : (o : ℕ) → In (record_region c) o
      → f' o ≡ written (step_write d backup c r (list_prices list) s) backup o (f o)) where
    abbrev w : Write
    w = step_write d backup c r (list_prices list) s

    -- a word of the record that the step does not write
    other_word : (o : ℕ) → In (record_region c) o → NotIn (written_region w) o → f' o ≡ f o
    other_word o inside apart = wrote o inside ∙ written_other_offset w backup o (f o) apart

    -- a number of the record that it does not write
    other_number : (offset : ℕ) → ((j : ℕ) → j < number_size → In (record_region c) (offset + j))
        → ((j : ℕ) → j < number_size → NotIn (written_region w) (offset + j)) → number_at f' offset ≡ number_at f offset
    other_number offset inside apart =
        number_kept f offset f' (λ j within. other_word (offset + j) (inside j within) (apart j within))

    -- a number that it writes
    this_number : (offset : ℕ) → ((j : ℕ) → j < number_size → In (record_region c) (offset + j))
        → w ≡ write_of backup offset (number_words r.number) → number_at f' offset ≡ r.number
    this_number offset inside is =
        number_is f' offset r.number
        (λ j within.
        wrote (offset + j) (inside j within)
        ∙ rw is (written_here _ backup (offset + j) _ refl j (omega (arith, length_number r.number)) refl))

    -- a step that leaves the record, and does not count the release
    same_record : ((o : ℕ) → In (record_region c) o → f' o ≡ f o) → suc s ≢ counts_at (length (list_prices list))
        → Done (opened r list (suc s)) (number_at f (record_done c)) last.number → Parts c (opened r list (suc s)) f
        → Recorded c (opened r list s) last f → Recorded c (opened r list (suc s)) last' f'
    same_record same plain done parts recorded =
        rw (after.plain plain)
        (recorded_kept c (opened r list (suc s)) last f f' same
        (record { stamped = recorded.stamped; desked = recorded.desked; done = done; parts = parts }))

    -- a desk word is written: the desk of the other evenness stays
    desk_recorded : (i : ℕ) → s ≡ 2 * length (list_prices list) + i → i < desk_size → Recorded c (opened r list s) last f
        → Recorded c (opened r list (suc s)) last' f'
    desk_recorded i at inside recorded =
        rw (after.plain (omega arith))
        (record {
          stamped = other_number (record_stamp c) (stamp_in c) (λ j within. rw to (λ here. omega arith))
              ∙ recorded.stamped;
          desked = λ j within.
              other_word _ (desk_in c last.number j within) (rw to (λ here. omega (arith, next)))
              ∙ recorded.desked j within;
          done = (
            (λ soon. other_number (record_done c) (done_in c) (λ j within. rw to (λ here. omega arith))
                ∙ recorded.done.0 (omega arith)),
            (λ late _. absurd (omega arith)),
            (λ late. absurd (omega arith)),
          );
          parts = λ j within there soon. part j within there (ℕ_discrete j i);
        })
      where
        to : w ≡ write_of backup (record_desk c r.number + i) (get_or r.desk i 0 ∷ [])
        to = write_desk d backup c r (list_prices list) eight s i at inside

        next : r.number ≡ suc last.number
        next = numbers.0 (omega (arith, at, inside))

        part : (j : ℕ) → j < desk_size → 2 * length (list_prices list) + j < suc s → Dec (j ≡ i)
            → f' (record_desk c r.number + j) ≡ get_or r.desk j 0
        part j within there (yes same) =
            wrote _ (desk_in c r.number j within)
            ∙ rw to (written_here _ backup _ _ refl 0 (omega arith) (omega (arith, same)) ∙ rw same)
        part j within there (no other) =
            other_word _ (desk_in c r.number j within) (rw to (λ here. omega arith))
            ∙ recorded.parts j within (omega (arith, at)) (omega (arith, at, inside))

    -- the stamp is written, and the release counts: its desk is all there
    stamp_recorded : s ≡ 2 * length (list_prices list) + 8 → Recorded c (opened r list s) last f
        → Recorded c (opened r list (suc s)) last' f'
    stamp_recorded at recorded =
        rw (after.counts (omega arith))
        (record {
          stamped = this_number (record_stamp c) (stamp_in c) to;
          desked = λ j within.
              other_word _ (desk_in c r.number j within) (rw to (λ here. omega (arith, long)))
              ∙ recorded.parts j within (omega (arith, at)) (omega (arith, at));
          done = (
            (λ soon. absurd (omega arith)),
            (λ late _. ap suc
                (other_number (record_done c) (done_in c) (λ j within. rw to (λ here. omega (arith, long)))
                ∙ recorded.done.0 (omega arith)) ∙ sym next),
            (λ late. absurd (omega arith)),
          );
          parts = λ j within there soon. absurd (omega arith);
        })
      where
        to : w ≡ write_of backup (record_stamp c) (number_words r.number)
        to = write_stamp d backup c r (list_prices list) eight s at

        long : length (number_words r.number) ≡ number_size
        long = length_number r.number

        next : r.number ≡ suc last.number
        next = numbers.0 (omega (arith, at))

    done_recorded : s ≡ 4 * length (list_prices list) + 9 → Recorded c (opened r list s) last f
        → Recorded c (opened r list (suc s)) last' f'
    done_recorded at recorded =
        rw (after.plain (omega arith))
        (record {
          stamped = other_number (record_stamp c) (stamp_in c) (λ j within. rw to (λ here. omega (arith, long)))
              ∙ recorded.stamped;
          desked = λ j within.
              other_word _ (desk_in c last.number j within) (rw to (λ here. omega (arith, long)))
              ∙ recorded.desked j within;
          done = (
            (λ soon. absurd (omega arith)),
            (λ late soon. absurd (omega arith)),
            (λ late. this_number (record_done c) (done_in c) to
                ∙ ap (λ l. l.number) (sym (numbers.1 (omega (arith, at))))),
          );
          parts = λ j within there soon. absurd (omega arith);
        })
      where
        to : w ≡ write_of backup (record_done c) (number_words r.number)
        to = write_done d backup c r (list_prices list) eight s at

        long : length (number_words r.number) ≡ number_size
        long = length_number r.number

    pub step_recorded : Recorded c (opened r list s) last f → Recorded c (opened r list (suc s)) last' f'
    step_recorded recorded = go (phase (length (list_prices list)) s (omega arith))
      where
        go : Phase (length (list_prices list)) s → Recorded c (opened r list (suc s)) last' f'
        go (to_tentative early) =
            let to = write_tentative d backup c r (list_prices list) eight s early in
            same_record (λ o inside. other_word o inside (rw to (λ here. omega arith))) (omega arith)
            ((λ _. recorded.done.0 (omega arith)), (λ late _. absurd (omega arith)), (λ late. absurd (omega arith)))
            (λ j within there soon. absurd (omega arith)) recorded
        go (to_desk i at inside) = desk_recorded i at inside recorded
        go (to_stamp at) = stamp_recorded at recorded
        go (to_committed i at inside) =
            let to = write_committed d backup c r (list_prices list) eight s i at inside in
            same_record (λ o inside. other_word o inside (rw to (λ here. omega arith))) (omega arith) (
              (λ soon. absurd (omega arith)),
              (λ late _. recorded.done.1 (omega arith) (omega arith)),
              (λ late. absurd (omega arith)),
            )
            (λ j within there soon. absurd (omega arith)) recorded
        go (to_done at) = done_recorded at recorded
        go (to_close at) = absurd (omega arith)

-- the close leaves the record, which is settled
pub close_recorded : (c : ℕ) (r : Release) (list : List ℕ) (s : ℕ) (last : Release) (f f' : ℕ → ℕ)
    → 4 * length (list_prices list) + 10 ≤ s → ((o : ℕ) → In (record_region c) o → f' o ≡ f o)
    → Recorded c (opened r list s) last f → Recorded c none last f'
close_recorded c r list s last f f' past same recorded =
    recorded_kept c none last f f' same
    (record { stamped = recorded.stamped; desked = recorded.desked; done = recorded.done.2 past; parts = tt })
