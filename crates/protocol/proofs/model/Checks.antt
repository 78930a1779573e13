-- Each call's checks after 1 and 2 are the model's, one by one up to the first that refuses.
use Rattle.std.specs.Prelude.{ℕ, ◌+◌, ◌≡◌, List, ◌∷◌, true, not, ◌||◌, length, drop, ltb, leb}
use Rattle.laws.proofs.Prelude.{refl, ap, ◌∙◌, not-false}
use Rattle.laws.specs.Search.{count_below}
use Rattle.laws.proofs.Bools.{neither}
use Rattle.laws.proofs.Search.{lowest_same, count_agree}
use Rattle.answer.specs.Outcome.{recovery_awaited, no_card}
use Rattle.directory.specs.declared.Directory.{Directory}
use Rattle.directory.specs.declared.Status.{Status}
use Rattle.directory.specs.Directory.{is_live}
use Rattle.area.specs.Prelude.{Release}
use Rattle.diff.specs.Reading.{check_diff}
use Rattle.protocol.specs.Checks.{Check, check, awaits_recovery, no_such_card, no_live_card}
use Rattle.protocol.specs.Calls.{opening_checks, step_checks, fetch_checks, failure_checks, recovery_checks}
use Rattle.protocol.specs.Calls.{join_checks, desk_checks, start_release, make_step, fetch_page, fail_card, recover}
use Rattle.protocol.specs.Calls.{join_card, ask_desk}
use Rattle.protocol.specs.Model.{Model, model_checks}
use Rattle.protocol.proofs.checks.Outcome.{SameChecks, none}
use Rattle.protocol.proofs.checks.Agree.{by_place, by_test, by_lowest}
use Rattle.protocol.proofs.checks.ByCall.{running_status}
use Rattle.protocol.proofs.invariant.Rack.{RunningRack}
use Rattle.protocol.proofs.calls.Accepted.{running_rack}
use Rattle.protocol.proofs.model.Agrees.{Agrees}
use Rattle.protocol.proofs.model.Releases.{open_by_book, stamp_by_book, shares_by_book, moves_by_book}

module _ (d : Directory) (m : List ℕ) (s : Model) (agrees : Agrees d m s) where
  -- ---- the checks that calls share

  -- 11: the rack runs if the model does
  if_running : {cs xs : List Check} → (RunningRack d m s.book → SameChecks cs xs)
      → SameChecks (check (awaits_recovery d.status) recovery_awaited ∷ cs)
      (check (awaits_recovery s.status) recovery_awaited ∷ xs)
  if_running rest =
      by_test (ap awaits_recovery agrees.beside.status)
      (λ runs. rest (running_rack agrees.rack (agrees.beside.status ∙ running_status s.status runs)))

  -- 3: for any card, and for a live one
  if_real : (c : ℕ) {cs xs : List Check} → SameChecks cs xs
      → SameChecks (check (no_such_card d c) no_card ∷ cs) (check (leb s.cards c) no_card ∷ xs)
  if_real c rest = by_test (ap (λ (cards : ℕ). leb cards c) agrees.beside.cards) (λ _. rest)

  if_live : (c : ℕ) {cs xs : List Check} → (is_live d c ≡ true → SameChecks cs xs)
      → SameChecks (check (no_live_card d c) no_card ∷ cs) (check (leb s.cards c || not (s.live c)) no_card ∷ xs)
  if_live c rest =
      by_test (rw (agrees.beside.cards, agrees.beside.live c))
      (λ up. rest
      (agrees.beside.live c ∙ not-false (s.live c) (neither (leb s.cards c) (not (s.live c)) up).1))

  -- ---- each call's checks

  pub opening_checks_lem : (c : ℕ) (r : Release) (list : List ℕ)
      → SameChecks (drop 2 (opening_checks d m c r.number list)) (model_checks s (start_release c r list))
  unfolding model_checks
  opening_checks_lem c r list =
      if_running (λ rack. if_live c (λ live. by_test (open_by_book d m s.book rack c) (λ idle.
      let stamp = stamp_by_book d m s.book rack c live idle in
      by_place (ap (leb r.number) stamp) stamp (λ _.
      by_test (ap (λ (stamp : ℕ). ltb (stamp + 1) r.number) stamp) (λ _.
      by_place (ap (λ (pages : ℕ). ltb 0 (check_diff pages list).number) agrees.beside.pages)
      (ap (λ (pages : ℕ). (check_diff pages list).value) agrees.beside.pages) (λ _.
      by_lowest agrees.beside.cards
      (λ x _. rw (← agrees.beside.pages) (shares_by_book d m s.book rack c list x)) none))))))

  pub step_checks_lem : (c : ℕ) → SameChecks (drop 2 (step_checks d m c)) (model_checks s (make_step c))
  unfolding model_checks
  step_checks_lem c =
      if_running (λ rack. if_live c (λ live. by_test (ap not (open_by_book d m s.book rack c)) (λ _. none)))

  pub fetch_checks_lem : (page : ℕ) (buffer : List ℕ)
      → SameChecks (drop 2 (fetch_checks d m page (length buffer))) (model_checks s (fetch_page page buffer))
  unfolding model_checks
  fetch_checks_lem page buffer =
      if_running (λ rack. by_test (ap (λ (pages : ℕ). leb pages page) agrees.beside.pages) (λ _.
      by_lowest agrees.beside.cards (λ x _. moves_by_book d m s.book rack page x) (by_test refl (λ _. none))))

  pub failure_checks_lem : (c : ℕ) → SameChecks (drop 2 (failure_checks d m c)) (model_checks s (fail_card c))
  unfolding model_checks
  failure_checks_lem c =
      if_running (λ rack. if_live c (λ live. by_test (ap (λ (count : ℕ). leb count 2) count_is) (λ _. none)))
    where
      count_is : count_below (is_live d) d.cards ≡ count_below s.live s.cards
      count_is =
          rw agrees.beside.cards (count_agree (is_live d) s.live s.cards (λ x _. agrees.beside.live x))

  pub recovery_checks_lem : SameChecks (drop 2 (recovery_checks d m)) (model_checks s recover)
  unfolding model_checks
  recovery_checks_lem = by_test (ap (λ (status : Status). not (awaits_recovery status)) agrees.beside.status) (λ _. none)

  pub join_checks_lem : (c : ℕ) → SameChecks (drop 2 (join_checks d m c)) (model_checks s (join_card c))
  unfolding model_checks
  join_checks_lem c =
      if_running (λ rack. if_real c (by_test (agrees.beside.live c) (λ _. by_test
      (rw (agrees.beside.cards, lowest_same _ _ (open_by_book d m s.book rack) 0 s.cards)) (λ _. none))))

  pub desk_checks_lem : (c : ℕ) → SameChecks (drop 2 (desk_checks d m c)) (model_checks s (ask_desk c))
  unfolding model_checks
  desk_checks_lem c = if_running (λ rack. if_real c none)
