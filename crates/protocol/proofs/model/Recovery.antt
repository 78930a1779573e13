-- A recovery beside the model.
use Rattle.std.specs.Prelude.{ℕ, ◌≡◌, List, true}
use Rattle.laws.proofs.Prelude.{refl, sym, ap, subst, false≢true, not-false}
use Rattle.directory.specs.declared.Directory.{Directory}
use Rattle.directory.specs.NewHome.{HomeRule}
use Rattle.area.specs.Prelude.{zeros, desk_size, Release}
use Rattle.protocol.specs.Checks.{awaits_recovery}
use Rattle.protocol.specs.Result.{accepted}
use Rattle.protocol.specs.Recovery.{awaited_card, recovered_memory}
use Rattle.protocol.specs.Calls.{recovery_by, recovery_checks, recover}
use Rattle.protocol.specs.Book.{transition}
use Rattle.protocol.specs.Model.{Model, model_words, model_change}
use Rattle.protocol.proofs.checks.Outcome.{by_passed}
use Rattle.protocol.proofs.recovery.BeforeRecords.{enough, answers_awaited}
use Rattle.protocol.proofs.recovery.Homes.{recovered_parts}
use Rattle.protocol.proofs.calls.Accepted.{awaiting_rack}
use Rattle.protocol.proofs.model.Agrees.{Beside, Agrees}
use Rattle.protocol.proofs.model.Simulation.{Simulates}

module _ (d : Directory) (m : List ℕ) (s : Model) (agrees : Agrees d m s) (rule : HomeRule) where
  pub recovery_simulates : accepted (recovery_by rule d m).outcome ≡ true
      → Simulates s recover (recovery_by rule d m)
  unfolding recovery_by model_words model_change transition
  recovery_simulates =
      by_passed (Simulates s recover) (recovery_checks d m) _ _ d m (zeros desk_size) refl refl
      (λ p.
      let awaited = awaiting_rack agrees.rack (not-false (awaits_recovery d.status) p.1.1.0) in
      let rack = awaited.1 in
      record {
        words = ap (λ (r : Release). r.desk) (answers_awaited d awaited.0 m s.book rack);
        beside = subst (λ (after : Directory). Beside after (recovered_memory rule d (awaited_card d.status) m)
            (model_change recover s))
            (sym (recovered_parts rule d (awaited_card d.status) (enough rack)))
            (record {
              cards = agrees.beside.cards;
              pages = agrees.beside.pages;
              live = agrees.beside.live;
              status = refl;
              before = λ c opens. absurd (false≢true opens);
            });
      })
