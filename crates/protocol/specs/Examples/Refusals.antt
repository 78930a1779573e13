-- What calls refuse, with number and place, beside what they take: worked examples.
-- Assumes nothing: these are definitions.
use Rattle.std.specs.Prelude.{ℕ, List, [], ◌∷◌, ◌++◌, replicate}
use Rattle.laws.specs.Examples.{Example, computed}
use Rattle.directory.specs.declared.Directory.{Directory}
use Rattle.directory.specs.declared.Status.TheVariants.{Awaiting}
use Rattle.directory.specs.Directory.{marked_dead, with_homes, with_status}
use Rattle.area.specs.Prelude.{store, store_run, zeros, release_of, pages_start}
use Rattle.area.specs.Examples.{numbers_from, bit}
use Rattle.diff.specs.Format.{run_word}
use Rattle.protocol.specs.Checks.{outside_limits, unfit_rack}
use Rattle.protocol.specs.Result.{Result}
use Rattle.protocol.specs.Calls.{formatting, opening, step, fetch, failure, recovery, join, desk_question}
use Rattle.protocol.specs.Opening.{open_memory}
use Rattle.protocol.specs.Examples.Racks.{small_rack, small_memory, outcome_of, directory_words}

-- ---- limits, and racks that do not fit

abbrev pub limits_refuse : ℕ → ℕ → ℕ → ℕ
limits_refuse words cards pages = bit (outside_limits words cards pages)

abbrev pub unfit_is : Directory → List ℕ → ℕ
unfit_is d m = bit (unfit_rack d m)

-- card 2 has failed and is dead; recovery of it is over, or awaited
abbrev pub two_cards : Directory
two_cards = marked_dead small_rack 2

abbrev pub awaiting_card2 : Directory
awaiting_card2 = with_status two_cards (Awaiting 2)

-- ---- releases open on cards of the small rack

-- a list of one price, at a word of page 0
abbrev pub one_price_at : ℕ → List ℕ
one_price_at word = 0x10000000 ∷ run_word word 1 ∷ 7 ∷ 0xF0000003 ∷ []

-- the memory with release 1 of that list open on a card, and so many steps made
abbrev pub with_open : ℕ → ℕ → ℕ → List ℕ → List ℕ
with_open card word steps m =
    store 758 (open_memory 758 m card (release_of 1 (zeros 8)) (one_price_at word)) card 11 steps

-- on card 0 a release of word 6, on card 2 one of word 4
unfoldable pub two_open : List ℕ
two_open = with_open 2 4 0 (with_open 0 6 0 small_memory)

-- card 1 has this stamp, by its words
abbrev pub stamped_with : ℕ → ℕ → List ℕ
stamped_with low high = store_run 758 small_memory 1 0 (low ∷ high ∷ [])

-- it has closed 9 releases
unfoldable pub nine_closed : List ℕ
nine_closed = stamped_with 9 0

-- release `number` of words 4 to 6, by card 1
abbrev pub open_three : ℕ → List ℕ → Result
open_three number m =
    opening small_rack m 1 (release_of number (zeros 8)) (0x10000000 ∷ 0x20040003 ∷ 1 ∷ 2 ∷ 3 ∷ 0xF0000005 ∷ [])

-- a release by card 1 of a list whose word 3 is faulty, behind a price of word 4
abbrev pub open_faulty : ℕ → List ℕ → Result
open_faulty number m =
    opening small_rack m 1 (release_of number (zeros 8)) (0x10000000 ∷ 0x20040001 ∷ 1 ∷ 9 ∷ [])

-- release 0 of a list of no words, by a card
abbrev pub open_nothing : Directory → ℕ → Result
open_nothing d card = opening d small_memory card (release_of 0 (zeros 8)) []

-- page 0 fetched into a buffer of fives
abbrev pub fetch_fives : List ℕ → ℕ → Result
fetch_fives m room = fetch small_rack m 0 (replicate room 5)

-- a release of one price counts from its step 11 on; those of cards 1 and 2 are at this step
abbrev pub both_at : ℕ → List ℕ
both_at steps = with_open 2 4 steps (with_open 1 6 steps small_memory)

-- page 0 at its homes, cards 0 and 1: tentative words 100 to 131 and 300 to 331, committed 200 to 231 and 400 to 431
unfoldable pub four_copies : List ℕ
four_copies =
    store_run 758 (store_run 758 small_memory 0 pages_start (numbers_from 100 32 ++ numbers_from 200 32)) 1 pages_start
    (numbers_from 300 32 ++ numbers_from 400 32)

abbrev pub refusal_examples : List Example
refusal_examples =
    -- 3 to 8 cards, 1 to 64 pages, and a memory of the length that they ask for
    computed
    (limits_refuse 1516 2 1 ∷ limits_refuse 2274 3 1 ∷ limits_refuse 6064 8 1 ∷ limits_refuse 6822 9 1
    ∷ limits_refuse 2082 3 0 ∷ limits_refuse 14370 3 64 ∷ limits_refuse 14562 3 65 ∷ limits_refuse 2273 3 1
    ∷ limits_refuse 2275 3 1 ∷ [])
    (1 ∷ 0 ∷ 0 ∷ 1 ∷ 1 ∷ 0 ∷ 1 ∷ 1 ∷ 1 ∷ [])
    -- Formatting zeroes every word; a refused one keeps them.
    ∷ computed
    (outcome_of (formatting (replicate 2274 7) 3 1) ++ (formatting (replicate 2274 7) 3 1).memory) (0 ∷ 0 ∷ zeros 2274)
    ∷ computed
    (outcome_of (formatting (replicate 2273 7) 3 1) ++ (formatting (replicate 2273 7) 3 1).memory)
    (1 ∷ 0 ∷ replicate 2273 7)
    -- two live cards fit; one does not, though the other home is awaited
    ∷ computed
    (unfit_is two_cards small_memory ∷ unfit_is (with_status (marked_dead two_cards 1) (Awaiting 1)) small_memory ∷ [])
    (0 ∷ 1 ∷ [])
    -- homes that are one card, that no card has, or that are dead; a dead one fits while its recovery is awaited
    ∷ computed
    (unfit_is (with_homes small_rack 0 1 1) small_memory ∷ unfit_is (with_homes small_rack 0 0 3) small_memory
    ∷ unfit_is (with_homes two_cards 0 2 1) small_memory ∷ unfit_is (with_homes two_cards 0 0 2) small_memory
    ∷ unfit_is (with_homes awaiting_card2 0 0 2) small_memory ∷ [])
    (1 ∷ 1 ∷ 1 ∷ 1 ∷ 0 ∷ [])
    -- an awaited card that is live, or that does not exist
    ∷ computed
    (unfit_is (with_status small_rack (Awaiting 2)) small_memory
    ∷ unfit_is (with_status two_cards (Awaiting 3)) small_memory ∷ [])
    (1 ∷ 1 ∷ [])
    -- "release open" of a live card is 0 or 1; what a dead card's area says is not looked at
    ∷ computed
    (unfit_is small_rack (store 758 small_memory 2 10 2) ∷ unfit_is two_cards (store 758 small_memory 2 10 2) ∷ []) (1 ∷ 0 ∷ [])
    -- an open release of one price has made at most 14 steps, and its list is not faulty
    ∷ computed
    (unfit_is small_rack (with_open 2 4 14 small_memory) ∷ unfit_is small_rack (with_open 2 4 15 small_memory)
    ∷ unfit_is small_rack (store 758 (with_open 2 4 0 small_memory) 2 185 0) ∷ [])
    (0 ∷ 1 ∷ 1 ∷ [])
    -- An opening under the next number is taken. One at or below the stamp is refused with 5 at the stamp, one
    -- further on with 6, both before the list is looked at; a faulty list with 7 at its faulty word.
    ∷ computed
    (outcome_of (open_three 10 nine_closed) ++ outcome_of (open_faulty 9 nine_closed) ++ outcome_of (open_faulty 0 nine_closed)
    ++ outcome_of (open_faulty 11 nine_closed) ++ outcome_of (open_faulty 10 nine_closed))
    (0 ∷ 0 ∷ 5 ∷ 9 ∷ 5 ∷ 9 ∷ 6 ∷ 0 ∷ 7 ∷ 3 ∷ [])
    -- Numbers and stamps are compared by both their words.
    ∷ computed
    (outcome_of (open_three 4294967296 (stamped_with 4294967295 0))
    ++ outcome_of (open_three 4294967295 (stamped_with 4294967295 0))
    ++ outcome_of (open_three 4294967297 (stamped_with 4294967295 0)) ++ outcome_of (open_three 4294967298 (stamped_with 1 1))
    ++ outcome_of (open_three 2 (stamped_with 1 1)) ++ outcome_of (open_three 4294967306 nine_closed))
    (0 ∷ 0 ∷ 5 ∷ 4294967295 ∷ 6 ∷ 0 ∷ 0 ∷ 0 ∷ 5 ∷ 4294967297 ∷ 6 ∷ 0 ∷ [])
    -- The highest number is taken at the stamp before it; at that stamp it is refused with 5.
    ∷ computed
    (outcome_of (open_three 18446744073709551615 (stamped_with 4294967294 4294967295))
    ++ outcome_of (open_three 18446744073709551615 (stamped_with 4294967295 4294967295)))
    (0 ∷ 0 ∷ 5 ∷ 18446744073709551615 ∷ [])
    -- Neither a card that is not there nor a dead one opens a release, whatever the number and the list; one with a
    -- release open opens no other, whatever the number. A faulty list is refused with 7, though it shares a word.
    ∷ computed
    (outcome_of (open_nothing small_rack 3) ++ outcome_of (open_nothing two_cards 2)
    ++ outcome_of (open_faulty 0 (with_open 1 9 0 small_memory)) ++ outcome_of (open_faulty 1 two_open))
    (3 ∷ 0 ∷ 3 ∷ 0 ∷ 4 ∷ 0 ∷ 7 ∷ 3 ∷ [])
    -- Words in other cards' open releases: the place is the lowest such card, not the one of the list's first word. A
    -- release of another word of the page stands in nobody's way.
    ∷ computed
    (outcome_of (open_three 1 two_open) ++ outcome_of (open_three 1 (with_open 2 4 0 small_memory))
    ++ outcome_of (open_three 1 (with_open 2 7 0 small_memory)))
    (8 ∷ 0 ∷ 8 ∷ 2 ∷ 0 ∷ 0 ∷ [])
    -- A card with a release open steps it; one with none open has no step to make, and a dead one makes none.
    ∷ computed (outcome_of (step small_rack two_open 2) ++ outcome_of (step small_rack two_open 1)
    ++ outcome_of (step two_cards small_memory 2))
    (0 ∷ 0 ∷ 16 ∷ 0 ∷ 3 ∷ 0 ∷ [])
    -- A fetch is of the committed words at the primary.
    ∷ computed (outcome_of (fetch_fives four_copies 32) ++ (fetch_fives four_copies 32).words) (0 ∷ 0 ∷ numbers_from 200 32)
    -- A page is in motion once a release counts that prices a word of it, not before; the place is the lowest such
    -- card.
    ∷ computed
    (outcome_of (fetch_fives (both_at 10) 32) ++ outcome_of (fetch_fives (both_at 11) 32)
    ++ outcome_of (fetch_fives (with_open 2 4 11 small_memory) 32))
    (0 ∷ 0 ∷ 10 ∷ 1 ∷ 10 ∷ 2 ∷ [])
    -- no such page, then 10, then a buffer of 31 words, which is kept
    ∷ computed
    (outcome_of (fetch small_rack (both_at 11) 1 []) ++ outcome_of (fetch_fives (both_at 11) 31)
    ++ outcome_of (fetch_fives small_memory 31) ++ (fetch_fives small_memory 31).words)
    (9 ∷ 0 ∷ 10 ∷ 1 ∷ 17 ∷ 0 ∷ replicate 31 5)
    -- Of three live cards one may fail: it is dead, and its recovery awaited. Of two none may; a dead card fails no
    -- more.
    ∷ computed
    (outcome_of (failure small_rack small_memory 1) ++ directory_words (failure small_rack small_memory 1).directory)
    (0 ∷ 0 ∷ 1 ∷ 0 ∷ 1 ∷ 0 ∷ 1 ∷ 1 ∷ 1 ∷ [])
    -- It keeps every word, those of the dead card too.
    ∷ computed (failure small_rack four_copies 1).memory four_copies
    ∷ computed (outcome_of (failure two_cards small_memory 1) ++ outcome_of (failure two_cards small_memory 2))
    (13 ∷ 0 ∷ 3 ∷ 0 ∷ [])
    -- While a recovery is awaited every other call is refused with 11, before its card or page is looked at.
    ∷ computed
    (outcome_of (open_nothing awaiting_card2 9) ++ outcome_of (step awaiting_card2 small_memory 9)
    ++ outcome_of (fetch awaiting_card2 small_memory 9 []) ++ outcome_of (failure awaiting_card2 small_memory 9)
    ++ outcome_of (join awaiting_card2 small_memory 9) ++ outcome_of (desk_question awaiting_card2 small_memory 9))
    (11 ∷ 0 ∷ 11 ∷ 0 ∷ 11 ∷ 0 ∷ 11 ∷ 0 ∷ 11 ∷ 0 ∷ 11 ∷ 0 ∷ [])
    -- There is no recovery without a failure. Of a rack that does not fit neither is said, and 2 not of a memory of
    -- another length.
    ∷ computed
    (outcome_of (recovery small_rack small_memory) ++ outcome_of (recovery small_rack (store 758 small_memory 2 10 2))
    ++ outcome_of (step awaiting_card2 (store 758 small_memory 1 10 2) 9)
    ++ outcome_of (step (with_homes small_rack 0 1 1) (zeros 2273) 0))
    (12 ∷ 0 ∷ 2 ∷ 0 ∷ 2 ∷ 0 ∷ 1 ∷ 0 ∷ [])
    -- A live card does not join, whatever is open; a dead one not while a release is open on another.
    ∷ computed
    (outcome_of (join two_cards two_open 0) ++ outcome_of (join two_cards two_open 2)
    ++ outcome_of (join two_cards small_memory 2) ++ outcome_of (join two_cards small_memory 3))
    (14 ∷ 0 ∷ 15 ∷ 0 ∷ 0 ∷ 0 ∷ 3 ∷ 0 ∷ [])
    -- A desk question is taken of a dead card, and of no card that is not there.
    ∷ computed (outcome_of (desk_question two_cards small_memory 2) ++ outcome_of (desk_question two_cards small_memory 3))
    (0 ∷ 0 ∷ 3 ∷ 0 ∷ [])
    ∷ []
