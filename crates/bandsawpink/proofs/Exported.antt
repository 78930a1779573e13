-- An answer that tells an outcome, in numbers.
use Rattle.std.specs.Prelude.{ℕ, ◌≡◌, List, Bool, Result}
use Rattle.answer.specs.declared.Outcome.{Outcome}
use Rattle.answer.specs.declared.Refusal.{Refusal}
use Rattle.answer.specs.Refusal.{outcome_of}
use Rattle.bandsawpink.specs.Answers.{exported_answer, exported_desk_answer, exported_steps_answer}
use Rattle.bandsawpink.specs.Answers.{exported_pages_answer}

module _ (a : Result ℕ Refusal) (o : Outcome) (is : outcome_of a ≡ o) where
  pub answer_exported : exported_answer (outcome_of a) ≡ exported_answer o
  answer_exported = rw is

  pub desk_exported : {desk words : List ℕ} → desk ≡ words
      → exported_desk_answer (outcome_of a) desk ≡ exported_desk_answer o words
  desk_exported same = rw (is, same)

  pub steps_exported : {made count : ℕ} → made ≡ count
      → exported_steps_answer (outcome_of a) made ≡ exported_steps_answer o count
  steps_exported same = rw (is, same)

  pub pages_exported : {shown marks : List Bool} → shown ≡ marks
      → exported_pages_answer (outcome_of a) shown ≡ exported_pages_answer o marks
  pages_exported same = rw (is, same)
