-- The number and the place of each refusal, and what an answer comes to in numbers.
-- Assumes nothing: these are definitions.
use Rattle.std.specs.Prelude.{ℕ, Ok, Err, Result, ◌≡◌}
use Rattle.answer.specs.declared.Outcome.{Outcome}
use Rattle.answer.specs.declared.Refusal.{Refusal}
use Rattle.answer.specs.declared.Refusal.TheVariants.{Limits, Unfit, NoCard, ReleaseOpen, NumberUsed, NumberAhead}
use Rattle.answer.specs.declared.Refusal.TheVariants.{FaultyList, WordInUse, NoneOpen, ListTooLong, NoPage}
use Rattle.answer.specs.declared.Refusal.TheVariants.{PageInMotion, WrongBuffer, RecoveryAwaited, NoneAwaited, TwoLive}
use Rattle.answer.specs.declared.Refusal.TheVariants.{CardLive, JoinWhileOpen, StampTooHigh, Unreadable}
use Rattle.answer.specs.Outcome.{given, refused_at, limits, unfit, no_card, release_open, number_used, number_ahead}
use Rattle.answer.specs.Outcome.{faulty_list, word_in_use, no_open_release, list_too_long, no_page, page_in_motion}
use Rattle.answer.specs.Outcome.{wrong_buffer, recovery_awaited, none_awaited, two_live, card_live, join_while_open}
use Rattle.answer.specs.Outcome.{stamp_too_high, unreadable}

abbrev pub number_of : Refusal → ℕ
number_of Limits = limits
number_of Unfit = unfit
number_of NoCard = no_card
number_of ReleaseOpen = release_open
number_of (NumberUsed stamp) = number_used
number_of NumberAhead = number_ahead
number_of (FaultyList word) = faulty_list
number_of (WordInUse card) = word_in_use
number_of NoneOpen = no_open_release
number_of ListTooLong = list_too_long
number_of NoPage = no_page
number_of (PageInMotion card) = page_in_motion
number_of WrongBuffer = wrong_buffer
number_of RecoveryAwaited = recovery_awaited
number_of NoneAwaited = none_awaited
number_of TwoLive = two_live
number_of CardLive = card_live
number_of JoinWhileOpen = join_while_open
number_of StampTooHigh = stamp_too_high
number_of Unreadable = unreadable

-- the place that a refusal names, 0 where it names none
abbrev pub place_of : Refusal → ℕ
place_of Limits = 0
place_of Unfit = 0
place_of NoCard = 0
place_of ReleaseOpen = 0
place_of (NumberUsed stamp) = stamp
place_of NumberAhead = 0
place_of (FaultyList word) = word
place_of (WordInUse card) = card
place_of NoneOpen = 0
place_of ListTooLong = 0
place_of NoPage = 0
place_of (PageInMotion card) = card
place_of WrongBuffer = 0
place_of RecoveryAwaited = 0
place_of NoneAwaited = 0
place_of TwoLive = 0
place_of CardLive = 0
place_of JoinWhileOpen = 0
place_of StampTooHigh = 0
place_of Unreadable = 0

-- a refusal in numbers
abbrev pub told : Refusal → Outcome
told refusal = refused_at (number_of refusal) (place_of refusal)

-- an answer in numbers
abbrev pub outcome_of : Result ℕ Refusal → Outcome
outcome_of (Ok value) = given value
outcome_of (Err refusal) = told refusal

-- checks in numbers: a call that passes them is accepted, and gives nothing yet
abbrev pub checked : Result (Unit {0}) Refusal → Outcome
checked (Ok passed) = given 0
checked (Err refusal) = told refusal

-- the outcome tells the answer
abbrev pub AnswersApart : Type 0
AnswersApart = (a b : Result ℕ Refusal) → outcome_of a ≡ outcome_of b → a ≡ b
