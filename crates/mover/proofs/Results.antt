-- An accepted move has passed its checks and gives 0, and one that passes them is accepted.
use Rattle.std.specs.Prelude.{ℕ, ◌≡◌, List, [], true, length, Ok, Err}
use Rattle.std.specs.Prelude.{Result as Answered}
use Rattle.laws.proofs.Prelude.{refl, ap, ◌∙◌}
use Rattle.laws.proofs.Bools.{by_cond}
use Rattle.answer.specs.declared.Refusal.{Refusal}
use Rattle.answer.specs.Outcome.{given}
use Rattle.answer.specs.Refusal.{checked, told}
use Rattle.directory.specs.declared.Directory.{Directory}
use Rattle.protocol.specs.Checks.{Check, first_refusal}
use Rattle.protocol.specs.Result.{Result, accepted}
use Rattle.protocol.proofs.checks.Outcome.{Passed, numbered, all_passed, given_value, when_accepted}
use Rattle.checks.proofs.Passing.{all_pass}
use Rattle.rack.proofs.Results.{result_is, refused_keeps, accepted_does}
use Rattle.mover.specs.declared.forms.Form.{Form}
use Rattle.mover.specs.declared.forms.Form.TheVariants.{Old, New}
use Rattle.mover.specs.Forms.{width, other}
use Rattle.mover.specs.Fields.{rack_fields, moved}
use Rattle.mover.specs.Move.{moved_by, move_in, move_back}
use Rattle.mover.specs.Moving.{RackMemories, checks_from, move_from}
use Rattle.mover.proofs.Limits.{old_fields, new_fields}

pub accepted_move : (cs : List Check) (d : Directory) (moved target : List ℕ) → numbered cs ≡ true
    → accepted (moved_by (first_refusal cs 0) d moved target).outcome ≡ true
    → Passed cs × (moved_by (first_refusal cs 0) d moved target ≡ result_is (given 0) d moved [])
accepted_move cs d moved target real ok =
    let took = when_accepted (first_refusal cs 0) (result_is (first_refusal cs 0) d moved []) d target [] refl ok in
    let passed = all_passed cs 0 real took.0 in
    (passed, took.1 ∙ ap (λ o. result_is o d moved []) (given_value cs 0 passed))

pub passed_move : (cs : List Check) (d : Directory) (moved target : List ℕ) → Passed cs
    → moved_by (first_refusal cs 0) d moved target ≡ result_is (given 0) d moved []
passed_move cs d moved target passed = rw (given_value cs 0 passed)

-- ---- a move from a form, by what its checks come to

abbrev words : Form → Directory → List ℕ → List ℕ
words from d source = moved (width from) (width (other from)) (rack_fields d.cards d.pages) source

by_checks : (from : Form) (d : Directory) (source target : List ℕ)
    → move_from from d source target
    ≡ moved_by (first_refusal (checks_from from d source target) 0) d (words from d source) target
unfolding move_in move_back
by_checks Old d source target = refl
by_checks New d source target = refl

real_checks : (from : Form) (d : Directory) (source target : List ℕ) → numbered (checks_from from d source target) ≡ true
real_checks Old d source target = refl
real_checks New d source target = refl

lengths : (from : Form) (d : Directory) (source target : List ℕ) → Passed (checks_from from d source target)
    → RackMemories from d.cards d.pages (length source) (length target)
lengths Old d source target passed = (old_fields _ _ _ _ passed.0, new_fields _ _ _ _ passed.0)
lengths New d source target passed = (new_fields _ _ _ _ passed.0, old_fields _ _ _ _ passed.0)

module _ (from : Form) (d : Directory) (source target : List ℕ) where
  pub keeps_directory : (move_from from d source target).directory ≡ d
  keeps_directory =
      let o = first_refusal (checks_from from d source target) 0 in
      rw (by_checks from d source target)
      (by_cond (λ (r : Result). r.directory ≡ d) (accepted o) (result_is o d (words from d source) [])
      (result_is o d target []) (λ _. refl) (λ _. refl))

  module _ {first : Answered (Unit {0}) Refusal}
      (reached : checked first ≡ first_refusal (checks_from from d source target) 0) where
    pub move_refused : {e : Refusal} → first ≡ Err e → move_from from d source target ≡ result_is (told e) d target []
    move_refused refused =
        by_checks from d source target
        ∙ refused_keeps (λ o. result_is o d (words from d source) []) d target [] reached refused

    pub move_accepted : {u : Unit {0}} → first ≡ Ok u
        → move_from from d source target ≡ result_is (given 0) d (words from d source) []
    move_accepted passed =
        by_checks from d source target
        ∙ accepted_does (λ o. result_is o d (words from d source) []) d target [] reached passed

    pub move_lengths : {u : Unit {0}} → first ≡ Ok u → RackMemories from d.cards d.pages (length source) (length target)
    move_lengths passed =
        lengths from d source target
        (all_pass (checks_from from d source target) (real_checks from d source target) reached passed)
