-- What a call leaves, by the outcome that its checks reach: a refusal leaves all as it was.
use Rattle.std.specs.Prelude.{ℕ, ◌<◌, ◌≡◌, List, [], true, length, Ok, Err}
use Rattle.std.specs.Prelude.{Result as Answered}
use Rattle.laws.proofs.Prelude.{refl, sym, ◌∙◌, ne_eqb, not-false}
use Rattle.laws.proofs.Bools.{by_cond}
use Rattle.answer.specs.declared.Outcome.{Outcome}
use Rattle.answer.specs.declared.Refusal.{Refusal}
use Rattle.answer.specs.Outcome.{given}
use Rattle.answer.specs.Refusal.{checked, told}
use Rattle.answer.proofs.Refusals.{numbered, refused_told, passed_given}
use Rattle.directory.specs.declared.Directory.{Directory}
use Rattle.directory.specs.NewHome.{even_home}
use Rattle.directory.specs.Directory.{backup_of, marked_live}
use Rattle.area.specs.Prelude.{zeros, desk_size, Release}
use Rattle.protocol.specs.Release.{size_of, step_memory}
use Rattle.protocol.specs.Checks.{first_refusal, awaits_recovery}
use Rattle.protocol.specs.Result.{Result, result_of, accepted}
use Rattle.protocol.specs.Calls.{opening, opening_checks, step, step_checks, fetch, fetch_checks, failure, failure_checks}
use Rattle.protocol.specs.Calls.{recovery_by, recovery, recovery_checks, join, join_checks, desk_question, desk_checks}
use Rattle.protocol.specs.Opening.{open_memory}
use Rattle.protocol.specs.Fetch.{committed_page}
use Rattle.protocol.specs.Failure.{failed_directory}
use Rattle.protocol.specs.Recovery.{recovered_directory, recovered_memory, failed_release, awaited_card}
use Rattle.protocol.specs.Join.{joined_memory}
use Rattle.protocol.specs.DeskQuestion.{desk_of}
use Rattle.protocol.proofs.checks.ByCall.{Runs, OpeningPassed, StepPassed, FetchPassed, Fits, JoinPassed, join_passed}
use Rattle.protocol.proofs.checks.ByCall.{opening_passed, step_passed, fetch_passed, desk_passed}
use Rattle.checks.proofs.Order.{refused_first, passed_first, no_check}
use Rattle.checks.proofs.Passing.{all_pass}

-- ---- any call

abbrev pub result_is : Outcome → Directory → List ℕ → List ℕ → Result
result_is o d m words = record { outcome = o; directory = d; memory = m; words = words }

module _ {o : Outcome} (done : Outcome → Result) (d : Directory) (m words : List ℕ) where
  keeps : (e : Refusal) → told e ≡ o → result_of o (done o) d m words ≡ result_is (told e) d m words
  keeps e is = rw (← is) (rw (ne_eqb _ _ (numbered e)))

  does : (value : ℕ) → given value ≡ o → result_of o (done o) d m words ≡ done (given value)
  does value is = rw (← is)

  module _ {first : Answered (Unit {0}) Refusal} (reached : checked first ≡ o) where
    pub refused_keeps : {e : Refusal} → first ≡ Err e → result_of o (done o) d m words ≡ result_is (told e) d m words
    refused_keeps {e} refused = keeps e (refused_told reached refused)

    pub accepted_does : {u : Unit {0}} → first ≡ Ok u → result_of o (done o) d m words ≡ done (given 0)
    accepted_does passed = does 0 (passed_given reached passed)

-- a call whose accepted result keeps the directory keeps it, refused or not
either_keeps : (o : Outcome) (d : Directory) (done m words kept : List ℕ)
    → (result_of o (result_is o d done words) d m kept).directory ≡ d
either_keeps o d done m words kept =
    by_cond (λ (r : Result). r.directory ≡ d) (accepted o) (result_is o d done words) (result_is o d m kept) (λ _. refl)
    (λ _. refl)

-- ---- each call

module _ (d : Directory) (m : List ℕ) where
  module _ (c : ℕ) (r : Release) (list : List ℕ) {first : Answered (Unit {0}) Refusal}
      (reached : checked first ≡ first_refusal (opening_checks d m c r.number list) 0) where
    pub opening-refused : {e : Refusal} → first ≡ Err e → opening d m c r list ≡ result_is (told e) d m []
    unfolding opening
    opening-refused = refused_keeps (λ o. result_is o d (open_memory (size_of d) m c r list) []) d m [] reached

    pub opening-accepted : {u : Unit {0}} → first ≡ Ok u
        → opening d m c r list ≡ result_is (given 0) d (open_memory (size_of d) m c r list) []
    unfolding opening
    opening-accepted = accepted_does (λ o. result_is o d (open_memory (size_of d) m c r list) []) d m [] reached

    pub opening_facts : {u : Unit {0}} → first ≡ Ok u → OpeningPassed d m c r.number list
    opening_facts passed =
        opening_passed d m c r.number list (all_pass (opening_checks d m c r.number list) refl reached passed)

  pub opening_keeps : (c : ℕ) (r : Release) (list : List ℕ) → (opening d m c r list).directory ≡ d
  unfolding opening
  opening_keeps c r list =
      either_keeps (first_refusal (opening_checks d m c r.number list) 0) d (open_memory (size_of d) m c r list) m [] []

  pub step_keeps : (c : ℕ) → (step d m c).directory ≡ d
  unfolding step
  step_keeps c = either_keeps (first_refusal (step_checks d m c) 0) d (step_memory d (backup_of d c) m c) m [] []

  module _ (c : ℕ) {first : Answered (Unit {0}) Refusal} (reached : checked first ≡ first_refusal (step_checks d m c) 0) where
    pub step-refused : {e : Refusal} → first ≡ Err e → step d m c ≡ result_is (told e) d m []
    unfolding step
    step-refused = refused_keeps (λ o. result_is o d (step_memory d (backup_of d c) m c) []) d m [] reached

    pub step-accepted : {u : Unit {0}} → first ≡ Ok u → step d m c ≡ result_is (given 0) d (step_memory d (backup_of d c) m c) []
    unfolding step
    step-accepted = accepted_does (λ o. result_is o d (step_memory d (backup_of d c) m c) []) d m [] reached

    pub step_facts : {u : Unit {0}} → first ≡ Ok u → StepPassed d m c
    step_facts passed = step_passed d m c (all_pass (step_checks d m c) refl reached passed)

  pub fetch_keeps : (page : ℕ) (buffer : List ℕ) → (fetch d m page buffer).directory ≡ d
  unfolding fetch
  fetch_keeps page buffer =
      either_keeps (first_refusal (fetch_checks d m page (length buffer)) 0) d m m (committed_page d m page) buffer

  module _ (page : ℕ) (buffer : List ℕ) {first : Answered (Unit {0}) Refusal}
      (reached : checked first ≡ first_refusal (fetch_checks d m page (length buffer)) 0) where
    pub fetch-refused : {e : Refusal} → first ≡ Err e → fetch d m page buffer ≡ result_is (told e) d m buffer
    unfolding fetch
    fetch-refused = refused_keeps (λ o. result_is o d m (committed_page d m page)) d m buffer reached

    pub fetch-accepted : {u : Unit {0}} → first ≡ Ok u → fetch d m page buffer ≡ result_is (given 0) d m (committed_page d m page)
    unfolding fetch
    fetch-accepted = accepted_does (λ o. result_is o d m (committed_page d m page)) d m buffer reached

    pub fetch_facts : {u : Unit {0}} → first ≡ Ok u → FetchPassed d m page (length buffer)
    fetch_facts passed =
        fetch_passed d m page (length buffer) (all_pass (fetch_checks d m page (length buffer)) refl reached passed)

  module _ (c : ℕ) {first : Answered (Unit {0}) Refusal} (reached : checked first ≡ first_refusal (failure_checks d m c) 0) where
    pub failure-refused : {e : Refusal} → first ≡ Err e → failure d m c ≡ result_is (told e) d m []
    unfolding failure
    failure-refused = refused_keeps (λ o. result_is o (failed_directory d c) m []) d m [] reached

    pub failure-accepted : {u : Unit {0}} → first ≡ Ok u → failure d m c ≡ result_is (given 0) (failed_directory d c) m []
    unfolding failure
    failure-accepted = accepted_does (λ o. result_is o (failed_directory d c) m []) d m [] reached

  module _ (c : ℕ) {first : Answered (Unit {0}) Refusal} (reached : checked first ≡ first_refusal (desk_checks d m c) 0) where
    pub desk-refused : {e : Refusal} → first ≡ Err e → desk_question d m c ≡ result_is (told e) d m (zeros desk_size)
    unfolding desk_question
    desk-refused = refused_keeps (λ o. result_is o d m (desk_of d m c)) d m (zeros desk_size) reached

    pub desk-accepted : {u : Unit {0}} → first ≡ Ok u → desk_question d m c ≡ result_is (given 0) d m (desk_of d m c)
    unfolding desk_question
    desk-accepted = accepted_does (λ o. result_is o d m (desk_of d m c)) d m (zeros desk_size) reached

    pub desk_facts : {u : Unit {0}} → first ≡ Ok u → Runs d m × (c < d.cards)
    desk_facts passed = desk_passed d m c (all_pass (desk_checks d m c) refl reached passed)

  module _ (x : ℕ) {first : Answered (Unit {0}) Refusal} (reached : checked first ≡ first_refusal (join_checks d m x) 0) where
    pub join-refused : {e : Refusal} → first ≡ Err e → join d m x ≡ result_is (told e) d m []
    unfolding join
    join-refused = refused_keeps (λ o. result_is o (marked_live d x) (joined_memory d x m) []) d m [] reached

    pub join-accepted : {u : Unit {0}} → first ≡ Ok u → join d m x ≡ result_is (given 0) (marked_live d x) (joined_memory d x m) []
    unfolding join
    join-accepted = accepted_does (λ o. result_is o (marked_live d x) (joined_memory d x m) []) d m [] reached

    pub join_facts : {u : Unit {0}} → first ≡ Ok u → JoinPassed d m x
    join_facts passed = join_passed d m x (all_pass (join_checks d m x) refl reached passed)

  abbrev failed : ℕ
  failed = awaited_card d.status

  abbrev stamp : ℕ
  stamp = (failed_release d failed m).number

  abbrev recovered : Outcome → Result
  recovered o = result_is o (recovered_directory even_home d failed) (recovered_memory even_home d failed m)
      (failed_release d failed m).desk

  module _ {first : Answered (Unit {0}) Refusal} (reached : checked first ≡ first_refusal (recovery_checks d m) 0) where
    pub recovery-refused : {e : Refusal} → first ≡ Err e → recovery d m ≡ result_is (told e) d m (zeros desk_size)
    unfolding recovery_by
    recovery-refused {e} refused =
        keeps recovered d m (zeros desk_size) e (refused_first [] stamp (recovery_checks d m) refl reached refused)

    pub recovery-accepted : {u : Unit {0}} → first ≡ Ok u → recovery d m ≡ recovered (given stamp)
    unfolding recovery_by
    recovery-accepted passed =
        let none = passed_first [] stamp (recovery_checks d m) refl reached passed ∙ no_check stamp in
        does recovered d m (zeros desk_size) stamp (sym none)

    pub recovery_facts : {u : Unit {0}} → first ≡ Ok u → Fits d m × (awaits_recovery d.status ≡ true)
    recovery_facts passed =
        let p = all_pass (recovery_checks d m) refl reached passed in
        (record { limits = p.0; fit = p.1.0 }, not-false (awaits_recovery d.status) p.1.1.0)
