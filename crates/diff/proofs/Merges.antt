-- The theorems on merged diffs: what merging two gives and answers, for three in either bracketing, and for the diff that
-- changes nothing.
use Rattle.std.specs.Prelude.{ℕ, ◌*◌, ◌≤◌, ◌<◌, ◌≡◌, List, length}
use Rattle.laws.proofs.Prelude.{refl, sym, ap, ◌∙◌, arith, dec_lt}
use mathlib.Core.Bool.{or_assoc}
use Rattle.answer.specs.Outcome.{given, list_too_long}
use Rattle.diff.specs.Format.{most_words}
use Rattle.diff.specs.Reading.{word_step, read_from, check_diff}
use Rattle.diff.specs.Prices.{Price, prices_from, prices_of, names, applied_at, apply_prices}
use Rattle.diff.specs.Encoding.{encode}
use Rattle.diff.specs.Room.{room_for}
use Rattle.diff.specs.OnlyDiff.{Allowed}
use Rattle.diff.specs.Merging.{merge_pages, either_names, last_price, merged_diff, merge_diffs}
use Rattle.diff.specs.MergedDiff.{effect, DoesBoth, Gives, MergedOfTwo, MergedIsBoth, AnswersMerges}
use Rattle.diff.specs.MergedDiff.{MergesEitherWay, empty_diff, EmptyChangesNothing}
use Rattle.diff.proofs.Prices.{applied_append}
use Rattle.diff.proofs.Listed.{listed_agree}
use Rattle.diff.proofs.OnlyDiff.{allowed_few}
use Rattle.diff.proofs.Room.{over_limit, no_room, has_room}
use Rattle.diff.proofs.Merging.{merge_first, merge_second, merge_sized, MergeAccepted, merge_accepted}
use Rattle.diff.proofs.MergedDiff.{last_in_turn, merged_list, only_both, merged_applied, merged_of_two}

pub merged_is_both : MergedIsBoth
merged_is_both first second merges =
    let accepted = merge_accepted first second merges.0 merges.1 in (
      accepted.first_allowed,
      accepted.second_allowed,
      λ pages few allowed allowed'. merged_of_two pages few first second allowed allowed' accepted.short,
    )

-- ---- what is answered

module _ (first second : List ℕ) (allowed : Allowed merge_pages first) (allowed' : Allowed merge_pages second) where
  on_all_pages : length (merged_diff first second) ≤ most_words → MergedOfTwo merge_pages first second
  on_all_pages short = merged_of_two merge_pages (omega arith) first second allowed allowed' short

  -- where no allowed diff has both effects, the merged one is too long
  none_short : ((diff : List ℕ) → Allowed merge_pages diff → DoesBoth merge_pages first second diff → ⊥)
      → most_words < length (merged_diff first second)
  none_short none = elim (dec_lt most_words (length (merged_diff first second))) [
    | yes over ↦ over
    | no within ↦
        let made = on_all_pages (omega arith) in
        absurd (none (merged_diff first second) made.allowed (λ words long. made.does_both words))
  ]

  module _ (diff : List ℕ) (diff-allowed : Allowed merge_pages diff) (both : DoesBoth merge_pages first second diff) where
    is_merged : diff ≡ merged_diff first second
    is_merged = only_both merge_pages (omega arith) first second allowed allowed' diff diff-allowed both

    sized : (room : ℕ) → merge_diffs first second room ≡ room_for list_too_long (length diff) room
    sized room =
        merge_sized first second room allowed allowed'
        ∙ ap (λ (d : List ℕ). room_for list_too_long (length d) room) (sym is_merged)

    gives : (buffer : List ℕ) → length diff ≤ length buffer → Gives first second buffer diff
    gives buffer room = (answer, rw (answer, ← is_merged))
      where
        answer : merge_diffs first second (length buffer) ≡ given (length diff)
        answer =
            sized (length buffer)
            ∙ has_room list_too_long (length diff) (length buffer) (allowed_few merge_pages diff diff-allowed) room

pub answers_merges : AnswersMerges
answers_merges first second buffer =
    record {
      faulty_first = merge_first first second (length buffer);
      faulty_second = merge_second first second (length buffer);
      too_long = λ allowed allowed' none.
          merge_sized first second (length buffer) allowed allowed'
          ∙ over_limit list_too_long (length (merged_diff first second)) (length buffer)
          (none_short first second allowed allowed' none);
      too_short = λ allowed allowed' diff diff-allowed both short.
          sized first second allowed allowed' diff diff-allowed both (length buffer)
          ∙ no_room list_too_long (length diff) (length buffer) (allowed_few merge_pages diff diff-allowed) short;
      merged = λ allowed allowed' diff diff-allowed both.
          gives first second allowed allowed' diff diff-allowed both buffer;
    }

-- ---- three diffs

abbrev prices : List ℕ → List Price
prices = prices_of merge_pages

-- an accepted merge, by what it does to a label
module _ (first second : List ℕ) (accepted : MergeAccepted first second) where
  made : MergedOfTwo merge_pages first second
  made = on_all_pages first second accepted.first_allowed accepted.second_allowed accepted.short

  in_turn_lem : (label old : ℕ)
      → applied_at (prices (merged_diff first second)) label old
      ≡ applied_at (prices second) label (applied_at (prices first) label old)
  in_turn_lem label old =
      merged_applied merge_pages (omega arith) first second accepted.first_allowed accepted.second_allowed
      accepted.short label old
      ∙ applied_append (prices first) (prices second) label old

module _ (a b c : List ℕ) (ab : MergeAccepted a b) (bc : MergeAccepted b c) where
  named_either_way : (label : ℕ)
      → either_names (prices (merged_diff a b)) (prices c) label
      ≡ either_names (prices a) (prices (merged_diff b c)) label
  named_either_way label =
      rw ((made a b ab).names_either label, (made b c bc).names_either label)
      (or_assoc (names (prices a) label) (names (prices b) label) (names (prices c) label))

  priced_either_way : (label : ℕ)
      → last_price (prices (merged_diff a b)) (prices c) label ≡ last_price (prices a) (prices (merged_diff b c)) label
  priced_either_way label =
      last_in_turn (prices (merged_diff a b)) (prices c) label
      ∙ ap (applied_at (prices c) label) (in_turn_lem a b ab label 0)
      ∙ sym (last_in_turn (prices a) (prices (merged_diff b c)) label
      ∙ in_turn_lem b c bc label (applied_at (prices a) label 0))

  same_list : merged_diff (merged_diff a b) c ≡ merged_diff a (merged_diff b c)
  same_list =
      merged_list (merged_diff a b) c
      ∙ ap encode
      (listed_agree (either_names (prices (merged_diff a b)) (prices c)) (either_names (prices a) (prices (merged_diff b c)))
      (last_price (prices (merged_diff a b)) (prices c)) (last_price (prices a) (prices (merged_diff b c))) 0
      (32 * merge_pages) (λ label low high. named_either_way label)
      (λ label low high is. priced_either_way label))
      ∙ sym (merged_list a (merged_diff b c))

  same_answer : (room : ℕ) → merge_diffs (merged_diff a b) c room ≡ merge_diffs a (merged_diff b c) room
  same_answer room =
      merge_sized (merged_diff a b) c room (made a b ab).allowed bc.second_allowed
      ∙ ap (λ (d : List ℕ). room_for list_too_long (length d) room) same_list
      ∙ sym (merge_sized a (merged_diff b c) room ab.first_allowed (made b c bc).allowed)

pub merges_either_way : MergesEitherWay
merges_either_way a b c merges merges' =
    let ab = merge_accepted a b merges.0 merges.1 in
    let bc = merge_accepted b c merges'.0 merges'.1 in
    (same_list a b c ab bc, same_answer a b c ab bc)

-- ---- the diff that changes nothing

empty_allowed : Allowed merge_pages empty_diff
unfolding check_diff read_from word_step
empty_allowed = refl

empty_effect : (words : List ℕ) → effect merge_pages empty_diff words ≡ words
unfolding prices_of prices_from word_step apply_prices
empty_effect words = refl

pub empty_changes_nothing : EmptyChangesNothing
empty_changes_nothing diff buffer allowed room = (
  gives empty_diff diff empty_allowed allowed diff allowed
      (λ words long. ap (effect merge_pages diff) (sym (empty_effect words))) buffer room,
  gives diff empty_diff allowed empty_allowed diff allowed
      (λ words long. sym (empty_effect (effect merge_pages diff words))) buffer room,
)
