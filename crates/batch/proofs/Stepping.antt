-- Steps made one after the other on a rack that passed its checks: each up to the close is accepted, the one after it
-- refused.
use Rattle.std.specs.Prelude.{ℕ, zero, suc, ◌+◌, ◌-◌, ◌<◌, ◌≡◌, ◌≢◌, List, Bool, true, cond, not, Result, Ok, Err}
use Rattle.laws.proofs.Prelude.{refl, sym, ◌∙◌, arith, dec_lt, ne_eqb, lt-leb, le-leb}
use Prim.Native.Nat.{min}
use Rattle.answer.specs.declared.Refusal.{Refusal}
use Rattle.answer.specs.declared.Refusal.TheVariants.{NoneOpen}
use Rattle.answer.specs.Refusal.{checked, told}
use Rattle.answer.proofs.Refusals.{numbered}
use Rattle.answer.specs.Outcome.{given, refused, no_open_release}
use Rattle.directory.specs.declared.Directory.{Directory}
use Rattle.directory.specs.Directory.{is_live, backup_of}
use Rattle.area.specs.Prelude.{has_open_release}
use Rattle.protocol.specs.Release.{size_of, step_memory}
use Rattle.protocol.specs.Checks.{first_refusal, awaits_recovery}
use Rattle.protocol.specs.Step.{step_checks}
use Rattle.protocol.specs.Recovery.{step_times}
use Rattle.protocol.proofs.checks.ByCall.{Runs, StepPassed}
use Rattle.release.specs.Stepping.{left_of}
use Rattle.rack.proofs.Results.{step-refused, step-accepted}
use Rattle.batch.specs.Steps.{steps_from, steps, stepped_to, stopped_at}
use Rattle.batch.proofs.Checked.{Shut, some_left, next_passed, one_fewer, next_shut}

module _ (d : Directory) (c : ℕ) (below : c < d.cards) (live : is_live d c ≡ true) where
  -- on a rack that runs, a step of a live card comes to what its open flag says
  comes_to_lem : (m : List ℕ) → Runs d m → {opened : Bool} → has_open_release d.live (size_of d) m c ≡ opened
      → cond (not opened) (refused no_open_release) (given 0) ≡ first_refusal (step_checks d m c) 0
  unfolding first_refusal awaits_recovery
  comes_to_lem m runs is =
      rw (runs.fits.limits, runs.fits.fit, runs.running, lt-leb d.cards c below, live, is)

  pub stops : (m : List ℕ) (left made : ℕ) → Shut d m c
      → steps_from c (suc left) made d m ≡ stepped_to made (refused no_open_release) d m
  unfolding steps_from
  stops m left made closed =
      rw (step-refused d m c {first = Err NoneOpen} (comes_to_lem m closed.runs closed.shut) refl)

module _ (d : Directory) (c : ℕ) where
  goes_on : (m : List ℕ) (left made : ℕ) → StepPassed d m c
      → steps_from c (suc left) made d m ≡ steps_from c left (made + 1) d (step_memory d (backup_of d c) m c)
  unfolding steps_from
  goes_on m left made passed =
      let comes = comes_to_lem d c passed.below passed.live m passed.runs passed.is_open in
      rw (step-accepted d m c {first = Ok tt} comes refl)

  pub first-refused : (m : List ℕ) (count : ℕ) {first : Result (Unit {0}) Refusal} {e : Refusal}
      → checked first ≡ first_refusal (step_checks d m c) 0 → first ≡ Err e → count ≢ 0
      → steps d m c count ≡ stepped_to 0 (told e) d m
  unfolding steps_from
  first-refused m count {first} {e} reached refused some =
      let one : count ≡ suc (count - 1) = omega arith in
      rw (one, step-refused d m c reached refused) (simp (ne_eqb _ 0 (numbered e)))

  -- n steps, no more than are left
  record Ran (m : List ℕ) (n rest made : ℕ) : Type 0 where
    pub goes : steps_from c (n + rest) made d m ≡ steps_from c rest (made + n) d (step_times d (backup_of d c) c n m)
    pub shuts : n ≡ left_of d.pages m c → Shut d (step_times d (backup_of d c) c n m) c

  run : (n rest made : ℕ) (m : List ℕ) → StepPassed d m c → n < left_of d.pages m c → Ran m (suc n) rest made
  unfolding step_times
  run zero rest made m passed some =
      let one : suc zero + rest ≡ suc rest = omega arith in
      record { goes = rw one (goes_on m rest made passed); shuts = λ last. next_shut d m c passed (sym last) }
  run (suc n) rest made m passed some =
      let more : 1 < left_of d.pages m c = omega arith in
      let fewer = one_fewer d m c passed more in
      let next = step_memory d (backup_of d c) m c in
      let later = run n rest (made + 1) next (next_passed d m c passed more) (omega arith) in
      let one : suc (suc n) + rest ≡ suc (suc n + rest) = omega arith in
      let sum : made + 1 + suc n ≡ made + suc (suc n) = omega arith in
      record {
        goes = rw one (goes_on m (suc n + rest) made passed ∙ (rw sum at later.goes));
        shuts = λ last. later.shuts (omega arith);
      }

  pub all_made : (m : List ℕ) (count : ℕ) → StepPassed d m c → 0 < count → {made : ℕ}
      → made ≡ min count (left_of d.pages m c)
      → steps d m c count ≡ stepped_to made (stopped_at count made) d (step_times d (backup_of d c) c made m)
  unfolding steps_from
  all_made m count passed some {made} least =
      let left = some_left d m c passed in
      let first : made ≡ suc (made - 1) = omega arith in
      let none : 0 + made ≡ made = omega arith in
      elim (dec_lt made count) [
        | yes past ↦
            let rest = count - made - 1 in
            let ran = run (made - 1) (suc rest) 0 m passed (omega arith) in
            let all : suc (made - 1) + suc rest ≡ count = omega arith in
            let closed = rw (← first) at (ran.shuts (omega arith)) in
            rw (lt-leb count made past)
            (rw (all, ← first, none) at ran.goes
            ∙ stops d c passed.below passed.live (step_times d (backup_of d c) c made m) rest made closed)
        | no whole ↦
            let ran = run (made - 1) 0 0 m passed (omega arith) in
            let all : suc (made - 1) + 0 ≡ count = omega arith in
            rw (le-leb count made (omega arith)) (rw (all, ← first, none) at ran.goes)
      ]
