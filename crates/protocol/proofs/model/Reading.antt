-- Fetches and desk questions beside the model.
use Rattle.std.specs.Prelude.{ℕ, ◌<◌, ◌≡◌, List, Bool, true, false, cond, length}
use Rattle.laws.proofs.Prelude.{refl, ap}
use Rattle.directory.specs.declared.Directory.{Directory}
use Rattle.area.specs.Prelude.{zeros, desk_size, Release}
use Rattle.protocol.specs.Result.{accepted}
use Rattle.protocol.specs.DeskQuestion.{desk_of}
use Rattle.protocol.specs.Calls.{fetch, fetch_checks, desk_question, desk_checks, fetch_page, ask_desk}
use Rattle.protocol.specs.Model.{Model, is_opened, model_words, model_change}
use Rattle.protocol.proofs.checks.Outcome.{by_passed}
use Rattle.protocol.proofs.checks.ByCall.{fetch_passed, desk_passed}
use Rattle.protocol.proofs.invariant.Rack.{RunningRack}
use Rattle.protocol.proofs.invariant.Shown.{fetched}
use Rattle.protocol.proofs.calls.DeskQuestion.{desk_conforms}
use Rattle.protocol.proofs.model.Agrees.{Agrees, opened_live}
use Rattle.protocol.proofs.model.Releases.{not_opened}
use Rattle.protocol.proofs.model.Simulation.{Simulates, runs_beside}

module _ (d : Directory) (m : List ℕ) (s : Model) (agrees : Agrees d m s) where
  pub fetch_simulates : (page : ℕ) (buffer : List ℕ) → accepted (fetch d m page buffer).outcome ≡ true
      → Simulates s (fetch_page page buffer) (fetch d m page buffer)
  unfolding fetch model_words model_change
  fetch_simulates page buffer =
      by_passed (Simulates s (fetch_page page buffer)) (fetch_checks d m page (length buffer)) 0 _ d m buffer refl refl
      (λ p.
      let passed = fetch_passed d m page (length buffer) p in
      record {
        words = fetched d m s.book (runs_beside agrees passed.runs) page (length buffer) passed;
        beside = agrees.beside;
      })

  desk_words : RunningRack d m s.book → (c : ℕ) → c < d.cards
      → desk_of d m c ≡ cond (is_opened (s.book.release c)) (s.before c).desk (s.book.last c).desk
  unfolding desk_of
  desk_words rack c real = go (is_opened (s.book.release c)) refl
    where
      go : (opens : Bool) → is_opened (s.book.release c) ≡ opens
          → desk_of d m c ≡ cond opens (s.before c).desk (s.book.last c).desk
      go true opens =
          rw (opened_live agrees.rack c opens) (ap (λ (r : Release). r.desk) (agrees.beside.before c opens))
      go false idle =
          desk_conforms d m s.book rack c real (not_opened (s.book.release c) idle)

  pub desk_simulates : (c : ℕ) → accepted (desk_question d m c).outcome ≡ true
      → Simulates s (ask_desk c) (desk_question d m c)
  unfolding desk_question model_words model_change
  desk_simulates c =
      by_passed (Simulates s (ask_desk c)) (desk_checks d m c) 0 _ d m (zeros desk_size) refl refl
      (λ p.
      let passed = desk_passed d m c p in
      record { words = desk_words (runs_beside agrees passed.0) c passed.1; beside = agrees.beside })
