-- Failures and joins beside the model.
use Rattle.std.specs.Prelude.{ℕ, ◌≡◌, List, [], true, false}
use Rattle.laws.proofs.Prelude.{refl, sym, ◌∙◌, true≢false, false≢true, arith}
use Rattle.directory.specs.declared.Directory.{Directory}
use Rattle.directory.specs.Directory.{is_live, marked_live}
use Rattle.directory.proofs.Changes.{live_of_marked_dead, live_of_marked_live, live_of_other}
use Rattle.area.specs.Prelude.{own_release}
use Rattle.protocol.specs.Release.{size_of}
use Rattle.protocol.specs.Result.{accepted}
use Rattle.protocol.specs.Failure.{failed_directory}
use Rattle.protocol.specs.Calls.{failure, failure_checks, join, join_checks, fail_card, join_card}
use Rattle.protocol.specs.Book.{none, transition}
use Rattle.protocol.specs.Model.{Model, is_opened, model_words, model_change}
use Rattle.protocol.proofs.book.Changes.{update_each}
use Rattle.protocol.proofs.checks.Outcome.{by_passed}
use Rattle.protocol.proofs.checks.ByCall.{join_passed}
use Rattle.protocol.proofs.invariant.Found.{rack_below}
use Rattle.protocol.proofs.model.Agrees.{Agrees, opened_live}
use Rattle.protocol.proofs.model.Releases.{open_by_book}
use Rattle.protocol.proofs.model.Simulation.{Simulates, runs_beside}

module _ (d : Directory) (m : List ℕ) (s : Model) (agrees : Agrees d m s) where
  pub failure_simulates : (c : ℕ) → accepted (failure d m c).outcome ≡ true → Simulates s (fail_card c) (failure d m c)
  unfolding failure model_words model_change transition
  failure_simulates c =
      by_passed (Simulates s (fail_card c)) (failure_checks d m c) 0 _ d m [] refl refl
      (λ p.
      record {
        words = refl;
        beside = record {
          cards = agrees.beside.cards;
          pages = agrees.beside.pages;
          live = update_each s.live c false (λ x up. is_live (failed_directory d c) x ≡ up) (live_of_marked_dead d c)
              (λ x other. live_of_other d c false x other ∙ agrees.beside.live x);
          status = refl;
          before = update_each s.book.release c none
              (λ x R. is_opened R ≡ true → own_release (size_of d) m x ≡ s.before x)
              (λ opens. absurd (false≢true opens)) (λ x other. agrees.beside.before x);
        };
      })

  pub join_simulates : (c : ℕ) → accepted (join d m c).outcome ≡ true → Simulates s (join_card c) (join d m c)
  unfolding join model_words model_change
  join_simulates c =
      by_passed (Simulates s (join_card c)) (join_checks d m c) 0 _ d m [] refl refl
      (λ p.
      let passed = join_passed d m c p in
      let rack = runs_beside agrees passed.runs in
      record {
        words = refl;
        beside = record {
          cards = agrees.beside.cards;
          pages = agrees.beside.pages;
          live = update_each s.live c true (λ x up. is_live (marked_live d c) x ≡ up)
              (live_of_marked_live d c
              (omega (arith, passed.below, rack.core.shape.few_cards, rack.arrays.marks)))
              (λ x other. live_of_other d c true x other ∙ agrees.beside.live x);
          status = agrees.beside.status;
          before = λ x opens. absurd (true≢false
              (sym (open_by_book d m s.book rack x ∙ opens)
              ∙ passed.none_open x (rack_below agrees.rack x (opened_live agrees.rack x opens))));
        };
      })
