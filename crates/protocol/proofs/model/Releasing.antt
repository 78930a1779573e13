-- Openings and steps beside the model.
use Rattle.std.specs.Prelude.{ℕ, ◌≡◌, List, [], true, length}
use Rattle.laws.proofs.Prelude.{refl}
use Rattle.directory.specs.declared.Directory.{Directory}
use Rattle.area.specs.Prelude.{desk_size, Release}
use Rattle.diff.proofs.OnlyDiff.{allowed_few}
use Rattle.protocol.specs.Result.{accepted}
use Rattle.protocol.specs.Calls.{opening, opening_checks, step, step_checks, start_release, make_step}
use Rattle.protocol.specs.Book.{transition}
use Rattle.protocol.specs.Model.{Model, model_words, model_change}
use Rattle.protocol.proofs.checks.Outcome.{by_passed}
use Rattle.protocol.proofs.checks.ByCall.{opening_passed, step_passed}
use Rattle.protocol.proofs.invariant.Running.{none_if_idle}
use Rattle.protocol.proofs.model.Agrees.{Agrees, beside_on}
use Rattle.protocol.proofs.model.Before.{opening_before, step_before}
use Rattle.protocol.proofs.model.Simulation.{Simulates, runs_beside}

module _ (d : Directory) (m : List ℕ) (s : Model) (agrees : Agrees d m s) where
  pub opening_simulates : (c : ℕ) (r : Release) (list : List ℕ) → length r.desk ≡ desk_size
      → accepted (opening d m c r list).outcome ≡ true
      → Simulates s (start_release c r list) (opening d m c r list)
  unfolding opening model_words model_change transition
  opening_simulates c r list eight =
      by_passed (Simulates s (start_release c r list)) (opening_checks d m c r.number list) 0 _ d m [] refl refl
      (λ p.
      let passed = opening_passed d m c r.number list p in
      let rack = runs_beside agrees passed.runs in
      record {
        words = refl;
        beside = beside_on agrees.beside
            (opening_before d m s.book rack s.before agrees.beside.before c passed.live
            (none_if_idle d m s.book rack c passed.idle) r list eight
            (allowed_few d.pages list passed.allowed));
      })

  pub step_simulates : (c : ℕ) → accepted (step d m c).outcome ≡ true → Simulates s (make_step c) (step d m c)
  unfolding step model_words model_change transition
  step_simulates c =
      by_passed (Simulates s (make_step c)) (step_checks d m c) 0 _ d m [] refl refl
      (λ p.
      let passed = step_passed d m c p in
      record {
        words = refl;
        beside = beside_on agrees.beside
            (step_before d m s.book (runs_beside agrees passed.runs) s.before agrees.beside.before c
            passed.is_open);
      })
