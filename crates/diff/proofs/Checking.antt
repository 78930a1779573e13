-- What the check of a list handed in comes to: an answer that gives the number of its prices is that of a list that is
-- allowed, and a refusal is 7.
use Rattle.std.specs.Prelude.{ℕ, ◌≡◌, ◌≢◌, List, Bool, true, false, cond, length, ltb, Result, Ok, Err}
use Rattle.laws.proofs.Prelude.{refl, sym, ap, ◌∙◌}
use Rattle.answer.specs.declared.Refusal.{Refusal}
use Rattle.answer.specs.declared.Outcome.{Outcome}
use Rattle.answer.specs.Outcome.{given, refused_at, faulty_list}
use Rattle.answer.specs.Refusal.{number_of, place_of, told, outcome_of}
use Rattle.answer.proofs.Refusals.{numbered}
use Rattle.diff.specs.Reading.{Verdict, read_diff, whole_diff, check_diff}
use Rattle.diff.specs.OnlyDiff.{Allowed}

-- a list that is not allowed is refused with 7
pub faulty_number : (pages : ℕ) (list : List ℕ) → (check_diff pages list).number ≢ 0 → (check_diff pages list).number ≡ 7
unfolding check_diff
faulty_number pages list = go (read_diff pages list)
  where
    go : (v : Verdict) → (whole_diff (length list) v).number ≢ 0 → (whole_diff (length list) v).number ≡ 7
    go (Ok read) refusal = by_cut (ltb read.words (length list)) read.words read.prices refusal
      where
        by_cut : (cut : Bool) (place prices : ℕ)
            → (cond cut (refused_at faulty_list place) (given prices)).number ≢ 0
            → (cond cut (refused_at faulty_list place) (given prices)).number ≡ 7
        by_cut true place prices refusal = refl
        by_cut false place prices refusal = absurd (refusal refl)
    go (Err error) refusal = refl

module _ (pages : ℕ) (list : List ℕ) {answer : Result ℕ Refusal} (is : outcome_of answer ≡ check_diff pages list) where
  -- the list is refused
  module _ {refusal : Refusal} (refused : answer ≡ Err refusal) where
    pub refused_told : told refusal ≡ check_diff pages list
    refused_told = (rw refused at is)

    number_is : number_of refusal ≡ (check_diff pages list).number
    number_is = ap (λ (o : Outcome). o.number) refused_told

    pub refused_nonzero : (check_diff pages list).number ≢ 0
    refused_nonzero none = numbered refusal (number_is ∙ none)

    pub refused_faulty : number_of refusal ≡ faulty_list
    refused_faulty = number_is ∙ faulty_number pages list refused_nonzero

    pub refused_place : place_of refusal ≡ (check_diff pages list).value
    refused_place = ap (λ (o : Outcome). o.value) refused_told

  -- or is allowed
  pub passed_given : {prices : ℕ} → answer ≡ Ok prices → given prices ≡ check_diff pages list
  passed_given passed = (rw passed at is)

  pub passed_allowed : {prices : ℕ} → answer ≡ Ok prices → Allowed pages list
  passed_allowed passed = sym (ap (λ (o : Outcome). o.number) (passed_given passed))

  pub not_refused : ((refusal : Refusal) → answer ≡ Err refusal → ⊥) → Allowed pages list
  not_refused none = go answer refl
    where
      go : (a : Result ℕ Refusal) → answer ≡ a → Allowed pages list
      go (Ok prices) passed = passed_allowed passed
      go (Err refusal) refused = absurd (none refusal refused)
