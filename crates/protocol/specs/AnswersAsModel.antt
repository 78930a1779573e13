-- Every call answers as the reference model does: its number, place and value, and the words that it hands back.
-- Demand 3 speaks of accepted calls; this speaks of every call, so that a rack that refuses too much, too early or at
-- another place is shut out.
-- Assumes nothing: these are definitions.
use Rattle.std.specs.Prelude.{ℕ, ◌≡◌, List, [], ◌∷◌, true, not}
use Rattle.directory.specs.declared.Directory.{Directory}
use Rattle.directory.specs.NewHome.{HomeRule, even_home}
use Rattle.protocol.specs.Result.{Result, accepted}
use Rattle.protocol.specs.Calls.{formatting}
use Rattle.protocol.specs.Demand3.{Event, Typed, Interference, answer_to}
use Rattle.protocol.specs.Model.{Model, model_outcome, model_handed_back, model_after, new_model}

-- Each call gets what the last one left, refused or not; the areas of cards that the model has dead may hold anything.
unfoldable pub Follows : HomeRule → Directory → List ℕ → Model → List Event → Type 0
Follows rule d left s [] = Unit {0}
Follows rule d left s (e ∷ es) =
    let result : Result = answer_to rule d e in
    Typed e.call → Interference d (λ card. not (s.live card)) left e.found
    → (result.outcome ≡ model_outcome s e.call) × (result.words ≡ model_handed_back s e.call)
    × Follows rule result.directory result.memory (model_after e.call s) es

-- on every formatted rack
abbrev pub AnswersAsModelBy : HomeRule → Type 0
AnswersAsModelBy rule =
    (m : List ℕ) (cards pages : ℕ) → accepted (formatting m cards pages).outcome ≡ true → (events : List Event)
    → Follows rule (formatting m cards pages).directory (formatting m cards pages).memory (new_model cards pages)
    events

abbrev pub AnswersAsModel : Type 0
AnswersAsModel = AnswersAsModelBy even_home
