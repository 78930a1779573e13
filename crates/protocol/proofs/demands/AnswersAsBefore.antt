-- Two racks that get the same calls answer alike, whatever rules for new homes they go by: both answer as one model.
use Rattle.std.specs.Prelude.{ℕ, ◌≡◌, List, [], ◌∷◌, Bool, true, false, cond, not}
use Rattle.laws.proofs.Prelude.{refl, sym, ◌∙◌, ℕ_discrete, true≢false, not-false}
use Rattle.directory.specs.NewHome.{HomeRule}
use Rattle.answer.specs.declared.Outcome.{Outcome}
use Rattle.protocol.specs.Result.{accepted}
use Rattle.protocol.specs.Calls.{Call, start_release, make_step, fetch_page, fail_card, recover, join_card}
use Rattle.protocol.specs.Calls.{ask_desk}
use Rattle.protocol.specs.Demand3.{offline_after, Interference, Event}
use Rattle.protocol.specs.Model.{Model, model_outcome, model_change, model_after}
use Rattle.protocol.specs.AnswersAsModel.{Follows}
use Rattle.protocol.specs.AnswersAsBefore.{RackState, TwoEvents, first, second, Interferes, SameAnswers}
use Rattle.protocol.specs.AnswersAsBefore.{AnswersByAnyRule}
use Rattle.protocol.proofs.book.Changes.{update_same, update_other}
use Rattle.protocol.proofs.demands.AnswersAsModel.{answers_as_model}

-- ---- the events of either rack

abbrev firsts : List TwoEvents → List Event
firsts [] = []
firsts (e ∷ es) = first e ∷ firsts es

abbrev seconds : List TwoEvents → List Event
seconds [] = []
seconds (e ∷ es) = second e ∷ seconds es

-- ---- a card that the model has live is not offline

abbrev Online : Model → (ℕ → Bool) → Type 0
Online s offline = (c : ℕ) → s.live c ≡ true → offline c ≡ false

change_online : (call : Call) (s : Model) (offline : ℕ → Bool) → Online s offline
    → Online (model_change call s) (offline_after call offline)
unfolding model_change offline_after
change_online (start_release card r list) s offline online = online
change_online (make_step card) s offline online = online
change_online (fetch_page page buffer) s offline online = online
change_online (fail_card card) s offline online = λ c live.
    elim (ℕ_discrete c card) [
      | yes same ↦ absurd (true≢false (sym live ∙ (rw same (update_same s.live card false))))
      | no other ↦ update_other offline card true c other ∙ online c (sym (update_other s.live card false c other)
          ∙ live)
    ]
change_online recover s offline online = online
change_online (join_card card) s offline online = λ c live.
    elim (ℕ_discrete c card) [
      | yes same ↦ rw same (update_same offline card false)
      | no other ↦ update_other offline card false c other ∙ online c (sym (update_other s.live card true c other)
          ∙ live)
    ]
change_online (ask_desk card) s offline online = online

after_online : (call : Call) (s : Model) (offline : ℕ → Bool) (o : Outcome) → o ≡ model_outcome s call → Online s offline
    → Online (model_after call s) (cond (accepted o) (offline_after call offline) offline)
unfolding model_after
after_online call s offline o same online =
    rw same (go (accepted (model_outcome s call)))
  where
    go : (taken : Bool) → Online (cond taken (model_change call s) s) (cond taken (offline_after call offline) offline)
    go true = change_online call s offline online
    go false = online

-- so that what a rack finds is what the model allows
allowed : (rack : RackState) (s : Model) (found : List ℕ) → Online s rack.offline → Interferes rack found
    → Interference rack.directory (λ card. not (s.live card)) rack.left found
allowed rack s found online undisturbed =
    record {
      same_length = undisturbed.same_length;
      words_same = λ card offset real inside dead.
          undisturbed.words_same card offset real inside (online card (not-false (s.live card) dead));
    }

-- ---- call after call

module _ (rule rule' : HomeRule) where
  same_answers : (events : List TwoEvents) (rack rack' : RackState) (s : Model)
      → Follows rule rack.directory rack.left s (firsts events)
      → Follows rule' rack'.directory rack'.left s (seconds events)
      → Online s rack.offline → Online s rack'.offline → SameAnswers rule rule' rack rack' events
  unfolding Follows SameAnswers
  same_answers [] rack rack' s follows follows' online online' = tt
  same_answers (e ∷ es) rack rack' s follows follows' online online' = λ typed found found'.
      let one = follows typed (allowed rack s e.found online found) in
      let two = follows' typed (allowed rack' s e.found' online' found') in (
        one.0 ∙ sym two.0,
        one.1 ∙ sym two.1,
        same_answers es _ _ (model_after e.call s) one.2 two.2
            (after_online e.call s rack.offline _ one.0 online)
            (after_online e.call s rack'.offline _ two.0 online'),
      )

pub answers_by_any_rule : AnswersByAnyRule
answers_by_any_rule rule rule' good good' m cards pages ok events =
    same_answers rule rule' events _ _ _
    (answers_as_model rule good m cards pages ok (firsts events))
    (answers_as_model rule' good' m cards pages ok (seconds events))
    (λ c live. refl) (λ c live. refl)
