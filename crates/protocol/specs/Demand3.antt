-- Demand 3 (document 01, "The book of demand 3"): one claim about every list of calls on a newly formatted rack.
use Rattle.std.specs.Prelude.{ℕ, ◌+◌, ◌*◌, ◌<◌, ◌≡◌, List, [], ◌∷◌, Bool, true, false, cond, length}
use Rattle.directory.specs.declared.Directory.{Directory}
use Rattle.directory.specs.Directory.{table}
use Rattle.directory.specs.NewHome.{HomeRule, NamesLive, even_home}
use Rattle.area.specs.Prelude.{load, desk_size, page_size}
use Rattle.protocol.specs.Release.{size_of}
use Rattle.protocol.specs.Result.{Result, accepted}
use Rattle.protocol.specs.Calls.{Call, start_release, make_step, fetch_page, fail_card, recover, join_card}
use Rattle.protocol.specs.Calls.{ask_desk, perform_by, formatting}
use Rattle.protocol.specs.Book.{none, Book, new_book, update, transition_if}

-- ---- what stands between two calls

-- which cards are between their accepted failure and their accepted join
unfoldable pub offline_after : Call → (ℕ → Bool) → ℕ → Bool
offline_after (start_release card r list) offline = offline
offline_after (make_step card) offline = offline
offline_after (fetch_page page buffer) offline = offline
offline_after (fail_card card) offline = update offline card true
offline_after recover offline = offline
offline_after (join_card card) offline = update offline card false
offline_after (ask_desk card) offline = offline

-- "Nobody else writes the memory, but from its accepted failure to its accepted join a card's area may hold anything
-- at each call"
pub record Interference (d : Directory) (offline : ℕ → Bool) (left found : List ℕ) : Type 0 where
  pub same_length : length found ≡ length left
  pub words_same : (card offset : ℕ) → card < d.cards → offset < size_of d → offline card ≡ false
      → load (size_of d) found card offset ≡ load (size_of d) left card offset

-- a call, and the memory that it finds
pub record Event : Type 0 where
  pub call : Call
  pub found : List ℕ

-- an argument that is of its type: a desk is 8 words
unfoldable pub Typed : Call → Type 0
Typed (start_release card r list) = length r.desk ≡ desk_size
Typed (make_step card) = Unit {0}
Typed (fetch_page page buffer) = Unit {0}
Typed (fail_card card) = Unit {0}
Typed recover = Unit {0}
Typed (join_card card) = Unit {0}
Typed (ask_desk card) = Unit {0}

-- ---- what accepted calls must answer

-- the book's 32 prices of a page
abbrev pub page_in : Book → ℕ → List ℕ
page_in b page = table (λ word. b.price (32 * page + word)) page_size

unfoldable pub Conforms : Book → Call → Result → Type 0
Conforms b (start_release card r list) result = Unit {0}
Conforms b (make_step card) result = Unit {0}
Conforms b (fetch_page page buffer) result = result.words ≡ page_in b page
Conforms b (fail_card card) result = Unit {0}
Conforms b recover result =
    (result.outcome.value ≡ (b.last b.failed).number) × (result.words ≡ (b.last b.failed).desk)
Conforms b (join_card card) result = Unit {0}
Conforms b (ask_desk card) result = b.release card ≡ none → result.words ≡ (b.last card).desk

-- ---- every list of calls

-- what a rack that replaces lost homes by a rule answers to an event
abbrev pub answer_to : HomeRule → Directory → Event → Result
answer_to rule d e = perform_by rule e.call d e.found

-- Each call gets what the last one left, refused or not; at each, P holds of the book, the directory and the event.
unfoldable pub Always :
    HomeRule → (Book → Directory → Event → Type 0) → Directory → List ℕ → (ℕ → Bool) → Book → List Event → Type 0
Always rule P d left offline b [] = Unit {0}
Always rule P d left offline b (e ∷ es) =
    let result : Result = answer_to rule d e in
    let taken : Bool = accepted result.outcome in
    Typed e.call → Interference d offline left e.found
    → P b d e
    × Always rule P result.directory result.memory (cond taken (offline_after e.call offline) offline)
    (transition_if taken e.call b) es

-- on every formatted rack
abbrev pub Everywhere : HomeRule → (Book → Directory → Event → Type 0) → Type 0
Everywhere rule P =
    (m : List ℕ) (cards pages : ℕ) → accepted (formatting m cards pages).outcome ≡ true → (events : List Event)
    → Always rule P (formatting m cards pages).directory (formatting m cards pages).memory (λ card. false) new_book
    events

-- Demand 3: an accepted call answers what the book holds.
abbrev pub Demand3By : HomeRule → Type 0
Demand3By rule =
    Everywhere rule
    (λ b d e. accepted (answer_to rule d e).outcome ≡ true → Conforms b e.call (answer_to rule d e))

abbrev pub Demand3 : Type 0
Demand3 = Demand3By even_home

-- whatever the rule, if it names a live card other than the kept home
abbrev pub ByAnyRule : (HomeRule → Type 0) → Type 0
ByAnyRule claim = (rule : HomeRule) → NamesLive rule → claim rule
