-- Two racks that get the same calls and go by different rules for new homes answer alike (document 02, request 4: "Over
-- each of demand 3's lists of calls, a fetch answers the same as before").
-- Assumes nothing: these are definitions.
use Rattle.std.specs.Prelude.{ℕ, ◌≡◌, List, [], ◌∷◌, Bool, true, false, cond}
use Rattle.directory.specs.declared.Directory.{Directory}
use Rattle.directory.specs.NewHome.{HomeRule, NamesLive, next_home, even_home}
use Rattle.protocol.specs.Result.{Result, accepted}
use Rattle.protocol.specs.Calls.{Call, formatting}
use Rattle.protocol.specs.Demand3.{offline_after, Interference, Event, Typed, answer_to}

-- a rack between two calls
pub record RackState : Type 0 where
  pub directory : Directory
  -- the memory that the last call left
  pub left : List ℕ
  pub offline : ℕ → Bool

-- as formatting leaves it
abbrev pub formatted_rack : List ℕ → ℕ → ℕ → RackState
formatted_rack m cards pages =
    let result : Result = formatting m cards pages in
    record { directory = result.directory; left = result.memory; offline = λ card. false }

-- and after a call
abbrev pub after_call : HomeRule → RackState → Event → RackState
after_call rule rack e =
    let result : Result = answer_to rule rack.directory e in
    record {
      directory = result.directory;
      left = result.memory;
      offline = cond (accepted result.outcome) (offline_after e.call rack.offline) rack.offline;
    }

-- a call that both racks get, and the memory that each finds: what its last call left, but for offline cards' areas
pub record TwoEvents : Type 0 where
  pub call : Call
  pub found : List ℕ
  pub found' : List ℕ

abbrev pub first : TwoEvents → Event
first e = record { call = e.call; found = e.found }

abbrev pub second : TwoEvents → Event
second e = record { call = e.call; found = e.found' }

abbrev pub Interferes : RackState → List ℕ → Type 0
Interferes rack found = Interference rack.directory rack.offline rack.left found

-- at each call: the same number, place and value, and the same words of a page or a desk
unfoldable pub SameAnswers : HomeRule → HomeRule → RackState → RackState → List TwoEvents → Type 0
SameAnswers rule rule' rack rack' [] = Unit {0}
SameAnswers rule rule' rack rack' (e ∷ es) =
    let result : Result = answer_to rule rack.directory (first e) in
    let result' : Result = answer_to rule' rack'.directory (second e) in
    Typed e.call → Interferes rack e.found → Interferes rack' e.found'
    → (result.outcome ≡ result'.outcome) × (result.words ≡ result'.words)
    × SameAnswers rule rule' (after_call rule rack (first e)) (after_call rule' rack' (second e)) es

-- on every formatted rack
abbrev pub SameAnswersBy : HomeRule → HomeRule → Type 0
SameAnswersBy rule rule' =
    (m : List ℕ) (cards pages : ℕ) → accepted (formatting m cards pages).outcome ≡ true → (events : List TwoEvents)
    → SameAnswers rule rule' (formatted_rack m cards pages) (formatted_rack m cards pages) events

-- with document 01's rule, and with that of document 02, request 4
abbrev pub AnswersAsBefore : Type 0
AnswersAsBefore = SameAnswersBy next_home even_home

-- with any two that name live cards
abbrev pub AnswersByAnyRule : Type 0
AnswersByAnyRule = (rule rule' : HomeRule) → NamesLive rule → NamesLive rule' → SameAnswersBy rule rule'
