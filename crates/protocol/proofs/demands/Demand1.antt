-- The proof of demand 1: refused calls change nothing, nor does a refused formatting, nor refused list work.
use Rattle.std.specs.Prelude.{ℕ, ◌≡◌, ◌≢◌, List, [], ◌∷◌, Bool, true, false, cond, length, ltb, eqb}
use Rattle.laws.proofs.Prelude.{refl, true≢false, ℕ_discrete, ne_eqb}
use Rattle.answer.specs.declared.Outcome.{Outcome}
use Rattle.answer.specs.Outcome.{given, refused, and_then, limits, wrong_buffer, list_too_long}
use Rattle.answer.proofs.InOrder.{first_refuses, first_passes}
use Rattle.directory.specs.Directory.{empty_directory}
use Rattle.directory.specs.NewHome.{even_home}
use Rattle.diff.specs.Format.{most_words}
use Rattle.diff.specs.Reading.{check_diff}
use Rattle.diff.proofs.Checking.{faulty_number}
use Rattle.diff.specs.Room.{room_for, written_by}
use Rattle.diff.specs.Making.{made_diff, lent_marked, make_diff, buffer_after, mark_changes, marks_after}
use Rattle.diff.specs.Merging.{merge_pages, merged_diff, merge_diffs, merged_buffer}
use Rattle.protocol.specs.Checks.{check, outside_limits}
use Rattle.protocol.specs.Result.{accepted}
use Rattle.protocol.specs.Formatting.{formatting}
use Rattle.protocol.specs.Demand1.{is_among, BufferKept, Demand1}
use Rattle.protocol.proofs.calls.Refused.{refused_by_checks, refused_unchanged}

-- a list that is refused by its length, by the number for one over 512 words or by 17
room_kept : (refusals placed buffer diff : List ℕ) (tooLong words room : ℕ) → is_among refusals tooLong ≡ true
    → is_among refusals wrong_buffer ≡ true → accepted (room_for tooLong words room) ≡ false
    → BufferKept refusals placed buffer (room_for tooLong words room) (written_by (room_for tooLong words room) diff buffer)
room_kept refusals placed buffer diff tooLong words room long short = go (ltb most_words words) (ltb room words)
  where
    comes_to : Bool → Bool → Outcome
    comes_to over none = cond over (refused tooLong) (cond none (refused wrong_buffer) (given words))

    go : (over none : Bool) → accepted (comes_to over none) ≡ false
        → BufferKept refusals placed buffer (comes_to over none) (written_by (comes_to over none) diff buffer)
    go true none is = record { numbered = long; no_place = λ _. refl; words = rw is }
    go false true is = record { numbered = short; no_place = λ _. refl; words = refl }
    go false false is = absurd (true≢false is)

refused_list : (working twins marks buffer : List ℕ)
    → accepted (make_diff working twins marks (length buffer)) ≡ false
    → BufferKept (1 ∷ 17 ∷ []) [] buffer (make_diff working twins marks (length buffer))
    (buffer_after working twins marks buffer)
unfolding make_diff is_among
refused_list working twins marks buffer =
    by_lent (lent_marked (length working) (length twins) (length marks)) (made_diff working marks)
  where
    comes_to : Bool → ℕ → Outcome
    comes_to lent words = cond lent (room_for wrong_buffer words (length buffer)) (refused limits)

    by_lent : (lent : Bool) (diff : List ℕ) → accepted (comes_to lent (length diff)) ≡ false
        → BufferKept (1 ∷ 17 ∷ []) [] buffer (comes_to lent (length diff))
        (written_by (comes_to lent (length diff)) diff buffer)
    by_lent true diff = room_kept (1 ∷ 17 ∷ []) [] buffer diff wrong_buffer (length diff) (length buffer) refl refl
    by_lent false diff = λ is. record { numbered = refl; no_place = λ _. refl; words = refl }

refused-marks : (working twins marks : List ℕ)
    → accepted (mark_changes (length working) (length twins) (length marks)) ≡ false
    → BufferKept (1 ∷ []) [] marks (mark_changes (length working) (length twins) (length marks))
    (marks_after working twins marks)
unfolding mark_changes is_among
refused-marks working twins marks = by_test (lent_marked (length working) (length twins) (length marks)) _
  where
    by_test : (lent : Bool) (made : List ℕ) → accepted (cond lent (given 0) (refused limits)) ≡ false
        → BufferKept (1 ∷ []) [] marks (cond lent (given 0) (refused limits))
        (cond (eqb (cond lent (given 0) (refused limits)).number 0) made marks)
    by_test true made is = absurd (true≢false is)
    by_test false made is = record { numbered = refl; no_place = λ _. refl; words = refl }

-- a check that refuses with 7, or what comes next
then_kept : (first next : Outcome) (diff buffer : List ℕ) → (first.number ≢ 0 → first.number ≡ 7)
    → (accepted next ≡ false → BufferKept (7 ∷ 19 ∷ 17 ∷ []) (7 ∷ []) buffer next (written_by next diff buffer))
    → accepted (and_then first next) ≡ false
    → BufferKept (7 ∷ 19 ∷ 17 ∷ []) (7 ∷ []) buffer (and_then first next) (written_by (and_then first next) diff buffer)
unfolding is_among
then_kept first next diff buffer faulty later = elim (ℕ_discrete first.number 0) [
  | yes passed ↦ rw (first_passes first next passed) later
  | no refusal ↦
      λ is.
      rw (first_refuses first next refusal)
      (record {
        numbered = rw (faulty refusal);
        no_place = λ none. absurd (true≢false (rw (faulty refusal) at none));
        words = rw (ne_eqb first.number 0 refusal);
      })
]

refused_merge : (first second buffer : List ℕ) → accepted (merge_diffs first second (length buffer)) ≡ false
    → BufferKept (7 ∷ 19 ∷ 17 ∷ []) (7 ∷ []) buffer (merge_diffs first second (length buffer))
    (merged_buffer first second buffer)
unfolding merge_diffs is_among
refused_merge first second buffer =
    let diff = merged_diff first second in
    then_kept (check_diff merge_pages first) _ diff buffer (faulty_number merge_pages first)
    (then_kept (check_diff merge_pages second) _ diff buffer (faulty_number merge_pages second)
    (room_kept (7 ∷ 19 ∷ 17 ∷ []) (7 ∷ []) buffer diff list_too_long (length diff) (length buffer) refl refl))

pub demand_1 : Demand1
unfolding formatting
demand_1 =
    record {
      calls = refused_unchanged even_home;
      formats = λ m cards pages.
          refused_by_checks (check (outside_limits (length m) cards pages) limits ∷ []) 0 _ empty_directory m [] refl;
      lists = refused_list;
      marks = refused-marks;
      merges = refused_merge;
    }
