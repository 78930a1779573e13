-- What a call comes to, in document 01's numbers ("What the rack refuses, by who caused it").
-- Assumes nothing: these are definitions.
use Rattle.std.specs.Prelude.{ℕ, List, [], ◌∷◌, cond, eqb}
use Rattle.answer.specs.declared.Outcome.{Outcome}

-- an accepted call that gives this value
abbrev pub given : ℕ → Outcome
given value = record { number = 0; value = value }

-- a refusal by its number, at a place
abbrev pub refused_at : ℕ → ℕ → Outcome
refused_at number place = record { number = number; value = place }

-- a refusal that names no place
abbrev pub refused : ℕ → Outcome
refused number = refused_at number 0

-- two checks in order: the refusal of the first, else what the second comes to
abbrev pub and_then : Outcome → Outcome → Outcome
and_then first second = cond (eqb first.number 0) second first

-- number and value as words, for worked examples
abbrev pub in_words : Outcome → List ℕ
in_words o = o.number ∷ o.value ∷ []

-- ---- the numbers

-- Whoever fitted the rack.
-- Cards or pages outside their limits, or a memory or lent pages of another length.
abbrev pub limits : ℕ
limits = 1

-- Memory and directory that do not fit each other.
abbrev pub unfit : ℕ
unfit = 2

-- The price desk.
-- No such card, or a dead one.
abbrev pub no_card : ℕ
no_card = 3

-- A release is open on the card.
abbrev pub release_open : ℕ
release_open = 4

-- A number at or below the card's stamp; place: the stamp.
abbrev pub number_used : ℕ
number_used = 5

-- A number above the card's stamp + 1.
abbrev pub number_ahead : ℕ
number_ahead = 6

-- A faulty list of changes; place: the word.
abbrev pub faulty_list : ℕ
faulty_list = 7

-- A word of the list stands in another card's open release; place: the lowest such card.
abbrev pub word_in_use : ℕ
word_in_use = 8

-- A step with no release open.
abbrev pub no_open_release : ℕ
no_open_release = 16

-- Document 02, request 9: a list made of others would have over 512 words.
abbrev pub list_too_long : ℕ
list_too_long = 19

-- The reader.
abbrev pub no_page : ℕ
no_page = 9

-- The page is in an open release that already counts; place: the lowest such card.
abbrev pub page_in_motion : ℕ
page_in_motion = 10

-- A page buffer or a list buffer of the wrong length, or a list over 512 words.
abbrev pub wrong_buffer : ℕ
wrong_buffer = 17

-- The rack's state.
abbrev pub recovery_awaited : ℕ
recovery_awaited = 11

-- Recovery called for with none awaited.
abbrev pub none_awaited : ℕ
none_awaited = 12

-- A failure with two live cards.
abbrev pub two_live : ℕ
two_live = 13

-- Joining a live card.
abbrev pub card_live : ℕ
card_live = 14

-- Joining, or moving to another form, with a release open.
abbrev pub join_while_open : ℕ
join_while_open = 15

-- A line that the program cannot read.
abbrev pub unreadable : ℕ
unreadable = 18

-- Document 02, request 5: moving back with a stamp or done mark above 4294967295 on a live card's area.
abbrev pub stamp_too_high : ℕ
stamp_too_high = 20
