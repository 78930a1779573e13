-- Where the first checks of a call do not refuse: a rack within its limits, and a card of it.
use Rattle.std.specs.Prelude.{ℕ, ◌*◌, ◌<◌, ◌≤◌, ◌≡◌, List, true, length, leb, Ok, Result}
use Rattle.laws.proofs.Prelude.{refl, eq-eqb, leb-false}
use Rattle.laws.proofs.Bools.{neither}
use Rattle.answer.specs.declared.Refusal.{Refusal}
use Rattle.answer.specs.Refusal.{checked}
use Rattle.answer.proofs.Refusals.{passed_zero}
use Rattle.directory.specs.declared.Directory.{Directory}
use Rattle.area.specs.Prelude.{area_size}
use Rattle.protocol.specs.Checks.{Check, first_refusal, running_checks, card_checks, live_card_checks}
use Rattle.protocol.proofs.checks.Outcome.{Passed, numbered, all_passed}
use Rattle.protocol.proofs.checks.Limits.{Within, within_limits}

-- checks that come to no refusal have all passed
pub all_pass : (cs : List Check) → numbered cs ≡ true → {first : Result (Unit {0}) Refusal} → {u : Unit {0}}
    → checked first ≡ first_refusal cs 0 → first ≡ Ok u → Passed cs
all_pass cs real reached passed = all_passed cs 0 real (eq-eqb _ _ (passed_zero reached passed))

-- a rack within its limits has the memory of one
pub memory_of : {words cards pages : ℕ} → Within words cards pages
    → (cards ≤ 8) × (pages ≤ 64) × (words ≡ cards * area_size pages)
memory_of within = (within.cards_most, within.pages_most, within.whole)

module _ (d : Directory) (m : List ℕ) {first : Result (Unit {0}) Refusal} {u : Unit {0}} where
  pub running_within : checked first ≡ first_refusal (running_checks d m) 0 → first ≡ Ok u
      → Within (length m) d.cards d.pages
  running_within reached passed = within_limits _ _ _ (all_pass (running_checks d m) refl reached passed).0

  pub card_within : (c : ℕ) → checked first ≡ first_refusal (card_checks d m c) 0 → first ≡ Ok u
      → Within (length m) d.cards d.pages × (c < d.cards)
  card_within c reached passed =
      let all = all_pass (card_checks d m c) refl reached passed in
      (within_limits _ _ _ all.0, leb-false d.cards c all.1.1.1.0)

  pub live_card_within : (c : ℕ) → checked first ≡ first_refusal (live_card_checks d m c) 0 → first ≡ Ok u
      → Within (length m) d.cards d.pages × (c < d.cards)
  live_card_within c reached passed =
      let all = all_pass (live_card_checks d m c) refl reached passed in
      (within_limits _ _ _ all.0, leb-false d.cards c (neither (leb d.cards c) _ all.1.1.1.0).0)
