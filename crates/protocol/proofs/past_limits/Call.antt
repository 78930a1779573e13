-- A call by a directory cut off at its cards and pages, and by the whole of it: the checks decide alike, and what an
-- accepted call leaves is the same.
use Rattle.std.specs.Prelude.{ℕ, ◌≡◌, List, true}
use Rattle.laws.proofs.Prelude.{sym, ◌∙◌}
use Rattle.directory.specs.declared.Directory.{Directory}
use Rattle.protocol.specs.Checks.{Check, first_refusal}
use Rattle.protocol.specs.Result.{Result, accepted, result_of}
use Rattle.protocol.specs.PastLimits.{below_limits, KeptPast}
use Rattle.protocol.proofs.checks.Outcome.{numbered, Passed, all_passed, outcome_of_lem, when_accepted, SameChecks}
use Rattle.protocol.proofs.checks.Outcome.{first_agree}
use Rattle.protocol.proofs.past_limits.Directory.{below_twice}
use Rattle.protocol.proofs.past_limits.Changes.{kept_same}

-- what a call leaves, by the directory cut off (`part`) and by the whole of it, which is d
pub record LeftBelow (d : Directory) (part whole : Result) : Type 0 where
  pub directory : below_limits part.directory ≡ below_limits whole.directory
  pub memory : part.memory ≡ whole.memory
  pub words : part.words ≡ whole.words
  pub kept : KeptPast d whole.directory

pub record CallBelow (d : Directory) (part whole : Result) : Type 0 where
  pub outcome : part.outcome ≡ whole.outcome
  pub left : accepted whole.outcome ≡ true → LeftBelow d part whole

module _ (d : Directory) (m : List ℕ) where
  pub below_by_checks : {cs xs : List Check} {value value' : ℕ} (part whole : Result) (words : List ℕ)
      → SameChecks cs xs
      → numbered xs ≡ true → part.outcome ≡ first_refusal cs value → whole.outcome ≡ first_refusal xs value'
      → (Passed xs → value ≡ value') → (Passed xs → LeftBelow d part whole)
      → CallBelow d (result_of (first_refusal cs value) part (below_limits d) m words)
      (result_of (first_refusal xs value') whole d m words)
  below_by_checks {cs} {xs} {value} {value'} part whole words same real is is' given left =
      let outcome =
      outcome_of_lem (first_refusal cs value) part (below_limits d) m words is ∙ first_agree same given
      ∙ sym (outcome_of_lem (first_refusal xs value') whole d m words is') in
      record {
        outcome = outcome;
        left = λ ok.
            let taken = when_accepted (first_refusal xs value') whole d m words is' ok in
            let taken' = when_accepted (first_refusal cs value) part (below_limits d) m words is (rw outcome ok) in
            rw (taken.1, taken'.1) (left (all_passed xs value' real taken.0));
      }

-- a call that hands back the directory as it came
pub same_directory : {d : Directory} {part whole : Result} → part.directory ≡ below_limits d → whole.directory ≡ d
    → part.memory ≡ whole.memory → part.words ≡ whole.words → LeftBelow d part whole
same_directory {d} is is' memory words =
    record { directory = rw (is, is') (below_twice d); memory = memory; words = words; kept = rw is' (kept_same d) }
