-- What merging two diffs comes to, check by check, and what an accepted merge says of the lists.
use Rattle.std.specs.Prelude.{ℕ, ◌≤◌, ◌≡◌, ◌≢◌, List, length}
use Rattle.laws.proofs.Prelude.{sym, ◌∙◌, arith}
use Rattle.answer.specs.Outcome.{and_then, list_too_long}
use Rattle.answer.proofs.InOrder.{first_refuses, first_passes, both_pass, in_order}
use Rattle.diff.specs.Format.{most_words}
use Rattle.diff.specs.Reading.{check_diff}
use Rattle.diff.specs.Room.{room_for}
use Rattle.diff.specs.OnlyDiff.{Allowed}
use Rattle.diff.specs.Merging.{merge_pages, merged_diff, merge_diffs}
use Rattle.diff.proofs.Room.{within_limit}

pub record MergeAccepted (first second : List ℕ) : Type 0 where
  pub first_allowed : Allowed merge_pages first
  pub second_allowed : Allowed merge_pages second
  pub short : length (merged_diff first second) ≤ most_words

module _ (first second : List ℕ) (room : ℕ) where
  pub merge_first : (check_diff merge_pages first).number ≢ 0 → merge_diffs first second room ≡ check_diff merge_pages first
  unfolding merge_diffs
  merge_first faulty = first_refuses (check_diff merge_pages first) _ faulty

  pub merge_second : Allowed merge_pages first → (check_diff merge_pages second).number ≢ 0
      → merge_diffs first second room ≡ check_diff merge_pages second
  unfolding merge_diffs
  merge_second allowed faulty =
      first_passes (check_diff merge_pages first) _ allowed ∙ first_refuses (check_diff merge_pages second) _ faulty

  -- one of the two is faulty
  pub merge_faulty : (and_then (check_diff merge_pages first) (check_diff merge_pages second)).number ≢ 0
      → merge_diffs first second room ≡ and_then (check_diff merge_pages first) (check_diff merge_pages second)
  unfolding merge_diffs
  merge_faulty faulty =
      sym (in_order (check_diff merge_pages first) (check_diff merge_pages second) _)
      ∙ first_refuses (and_then (check_diff merge_pages first) (check_diff merge_pages second)) _ faulty

  -- where both are allowed, the length decides
  pub merge_sized : Allowed merge_pages first → Allowed merge_pages second
      → merge_diffs first second room ≡ room_for list_too_long (length (merged_diff first second)) room
  unfolding merge_diffs
  merge_sized allowed allowed' =
      first_passes (check_diff merge_pages first) _ allowed ∙ first_passes (check_diff merge_pages second) _ allowed'

  pub merge_accepted : (merge_diffs first second room).number ≡ 0 → MergeAccepted first second
  unfolding merge_diffs
  merge_accepted e =
      let outer = both_pass (check_diff merge_pages first) _ e in
      let inner = both_pass (check_diff merge_pages second) _ outer.1 in
      record {
        first_allowed = outer.0;
        second_allowed = inner.0;
        short = within_limit list_too_long (length (merged_diff first second)) room (omega arith) inner.1;
      }
