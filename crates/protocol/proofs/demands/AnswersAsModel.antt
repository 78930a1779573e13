-- Every call answers as the reference model does: a formatted rack agrees with the new model, each call finds it so,
-- answers alike, and leaves it so.
use Rattle.std.specs.Prelude.{ℕ, ◌≡◌, List, [], ◌∷◌, Bool, true, false, cond, length}
use Rattle.laws.proofs.Prelude.{refl}
use Rattle.directory.specs.declared.Directory.{Directory}
use Rattle.directory.specs.NewHome.{HomeRule, NamesLive}
use Rattle.protocol.specs.Result.{accepted}
use Rattle.protocol.specs.Calls.{Call, start_release, make_step, fetch_page, fail_card, recover, join_card}
use Rattle.protocol.specs.Calls.{ask_desk, perform_by}
use Rattle.protocol.specs.Book.{transition}
use Rattle.protocol.specs.Demand1.{handed_back}
use Rattle.protocol.specs.Demand3.{Event, Typed, ByAnyRule}
use Rattle.protocol.specs.Model.{Model, model_words, model_handed_back, model_change, model_after, new_model}
use Rattle.protocol.specs.AnswersAsModel.{Follows, AnswersAsModelBy}
use Rattle.protocol.proofs.calls.Formatting.{formatting-accepted}
use Rattle.protocol.proofs.calls.Each.{each_accepted}
use Rattle.protocol.proofs.calls.Refused.{refused_unchanged}
use Rattle.protocol.proofs.model.Agrees.{Agrees, model_online, agrees_found, formatted_agrees}
use Rattle.protocol.proofs.model.Outcome.{outcome_agrees}
use Rattle.protocol.proofs.model.Each.{simulates}

-- the model's book is demand 3's
book_after_lem : (call : Call) (s : Model) → (model_change call s).book ≡ transition call s.book
unfolding model_change transition
book_after_lem (start_release card r list) s = refl
book_after_lem (make_step card) s = refl
book_after_lem (fetch_page page buffer) s = refl
book_after_lem (fail_card card) s = refl
book_after_lem recover s = refl
book_after_lem (join_card card) s = refl
book_after_lem (ask_desk card) s = refl

module _ (rule : HomeRule) (good : NamesLive rule) (d : Directory) (m : List ℕ) (s : Model) (agrees : Agrees d m s)
    (call : Call) (typed : Typed call) where
  -- the words, and what is left, by whether the call was accepted
  answers_alike : ((perform_by rule call d m).words ≡ model_handed_back s call)
      × Agrees (perform_by rule call d m).directory (perform_by rule call d m).memory (model_after call s)
  unfolding model_handed_back model_after
  answers_alike = rw (← outcome_agrees d m s agrees rule call) (go (accepted (perform_by rule call d m).outcome) refl)
    where
      go : (taken : Bool) → accepted (perform_by rule call d m).outcome ≡ taken
          → ((perform_by rule call d m).words ≡ cond taken (model_words s call) (handed_back call))
          × Agrees (perform_by rule call d m).directory (perform_by rule call d m).memory
          (cond taken (model_change call s) s)
      go true ok =
          let after =
          each_accepted d m s.book _ agrees.rack (model_online agrees.beside) rule good call typed ok in
          let alike = simulates d m s agrees rule call typed ok in
          (alike.words, record { rack = rw (book_after_lem call s) after.rack; beside = alike.beside })
      go false refused =
          let same = refused_unchanged rule call d m refused in
          (same.words, rw (same.directory, same.memory) agrees)

module _ (rule : HomeRule) (good : NamesLive rule) where
  follows : (events : List Event) (d : Directory) (left : List ℕ) (s : Model) → Agrees d left s
      → Follows rule d left s events
  unfolding Follows
  follows [] d left s agrees = tt
  follows (e ∷ es) d left s agrees = λ typed interference.
      let found = agrees_found d left e.found s agrees interference in
      let alike = answers_alike rule good d e.found s found e.call typed in
      (outcome_agrees d e.found s found rule e.call, alike.0, follows es _ _ _ alike.1)

pub answers_as_model : ByAnyRule AnswersAsModelBy
answers_as_model rule good m cards pages ok events =
    formatting-accepted (λ d left. Follows rule d left (new_model cards pages) events) m cards pages
    (λ limits. follows rule good events _ _ _ (formatted_agrees cards pages (length m) limits)) ok
