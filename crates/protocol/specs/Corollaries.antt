-- What follows from demand 3's invariant beside demand 3: a rack so reached always fits, and a release counts once.
-- Assumes nothing: these are definitions.
use Rattle.std.specs.Prelude.{ℕ, suc, ◌≤◌, ◌≡◌, ◌≢◌, ◌⊎◌, List, [], ◌∷◌, true}
use Rattle.answer.specs.Outcome.{unfit, release_open, number_used}
use Rattle.directory.specs.declared.Directory.{Directory}
use Rattle.directory.specs.declared.Status.TheVariants.{Running}
use Rattle.directory.specs.Directory.{is_live}
use Rattle.directory.specs.NewHome.{HomeRule, even_home}
use Rattle.area.specs.Prelude.{Release}
use Rattle.protocol.specs.Result.{accepted}
use Rattle.protocol.specs.Calls.{start_release}
use Rattle.protocol.specs.Book.{Opened, none, opened, Book, transition_if}
use Rattle.protocol.specs.Demand1.{is_among}
use Rattle.protocol.specs.Demand3.{Event, answer_to, Everywhere}

-- no call is ever refused with 2
abbrev pub AlwaysFitsBy : HomeRule → Type 0
AlwaysFitsBy rule = Everywhere rule (λ b d e. (answer_to rule d e).outcome.number ≢ unfit)

abbrev pub AlwaysFits : Type 0
AlwaysFits = AlwaysFitsBy even_home

-- the number is that of the card's open release, or at or below that of its last: the rack has the release, and no
-- recovery has undone it
abbrev pub OpenUnder : Opened → ℕ → Type 0
OpenUnder none number = ⊥
OpenUnder (opened r list steps) number = r.number ≡ number

abbrev pub HasTaken : Book → ℕ → ℕ → Type 0
HasTaken b card number = (number ≤ (b.last card).number) ⊎ OpenUnder (b.release card) number

-- a release resent to its card, live on a running rack, is refused with 4 or 5
unfoldable pub ResendRefused : HomeRule → Book → Directory → Event → Type 0
ResendRefused rule b d e =
    (card : ℕ) (r : Release) (list : List ℕ) → e.call ≡ start_release card r list → d.status ≡ Running
    → is_live d card ≡ true → HasTaken b card r.number
    → is_among (release_open ∷ number_used ∷ []) (answer_to rule d e).outcome.number ≡ true

abbrev pub ResendsRefusedBy : HomeRule → Type 0
ResendsRefusedBy rule = Everywhere rule (ResendRefused rule)

abbrev pub ResendsRefused : Type 0
ResendsRefused = ResendsRefusedBy even_home

-- A call counts at most the next number of a card, so that no number counts twice.
abbrev pub CountsNext : Book → Book → Type 0
CountsNext b after =
    (card : ℕ) → (after.last card ≡ b.last card) ⊎ ((after.last card).number ≡ suc (b.last card).number)

abbrev pub CountsOnceBy : HomeRule → Type 0
CountsOnceBy rule =
    Everywhere rule (λ b d e. CountsNext b (transition_if (accepted (answer_to rule d e).outcome) e.call b))

abbrev pub CountsOnce : Type 0
CountsOnce = CountsOnceBy even_home
