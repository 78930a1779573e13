-- A release opened, stepped and closed: worked examples.
-- Assumes nothing: these are definitions.
use Rattle.std.specs.Prelude.{ℕ, List, [], ◌∷◌, ◌++◌, length}
use Rattle.laws.specs.Examples.{Example, computed}
use Rattle.area.specs.Prelude.{store, store_run, zeros, release_of, pages_start}
use Rattle.area.specs.Examples.{numbers_from}
use Rattle.diff.specs.declared.Price.{Price}
use Rattle.protocol.specs.Release.{Write, release_writes, close}
use Rattle.protocol.specs.Result.{Result}
use Rattle.protocol.specs.Calls.{opening, step, desk_question}
use Rattle.protocol.specs.Examples.Racks.{small_rack, small_memory, outcome_of}

-- the desk words 50 to 57
abbrev pub desk : List ℕ
desk = numbers_from 50 8

-- card, offset, number of words and words of each store
abbrev pub writes_in_order : List Write → List ℕ
writes_in_order [] = []
writes_in_order (w ∷ ws) = w.card ∷ w.offset ∷ length w.words ∷ (w.words ++ writes_in_order ws)

-- words 4 and 5 of page 0, to 250 and 199: as prices, and as a list
abbrev pub two_prices : List Price
two_prices = record { page = 0; word = 4; price = 250 } ∷ record { page = 0; word = 5; price = 199 } ∷ []

abbrev pub two_price_list : List ℕ
two_price_list = 0x10000000 ∷ 0x20040002 ∷ 250 ∷ 199 ∷ 0xF0000004 ∷ []

-- ---- opened on card 1, which has closed release 4 with the desk words 30 to 37, and whose area holds some steps
-- and words past the list

unfoldable pub before_opening : List ℕ
before_opening =
    store_run 758 (store 758 (store_run 758 small_memory 1 0 (4 ∷ 0 ∷ numbers_from 30 8)) 1 11 9) 1 187 (8 ∷ 8 ∷ [])

unfoldable pub opened : Result
opened = opening small_rack before_opening 1 (release_of 5 desk) two_price_list

unfoldable pub stepped_once : Result
stepped_once = step small_rack opened.memory 1

unfoldable pub stepped_twice : Result
stepped_twice = step small_rack stepped_once.memory 1

-- after 13 steps the release counts
unfoldable pub asked_in_motion : Result
asked_in_motion = desk_question small_rack (store 758 opened.memory 1 11 13) 1

abbrev pub release_examples : List Example
release_examples =
    -- An opening is taken; it says so and counts 0 steps, and copies number, desk and list. All else is kept: own
    -- stamp and desk, and what stood behind the list.
    computed (outcome_of opened ++ opened.memory)
    (0 ∷ 0 ∷ zeros 758
    ++ 4 ∷ 0 ∷ numbers_from 30 8 ++ 1 ∷ 0 ∷ 5 ∷ 0 ∷ desk ++ zeros 160 ++ two_price_list ++ 8 ∷ 8 ∷ zeros 569
    ++ zeros 758)
    -- The first step stores the first price, tentatively, at the secondary, card 1, and nothing else but the count;
    -- the second at the primary, card 0.
    ∷ computed (outcome_of stepped_once ++ stepped_once.memory)
    (0 ∷ 0 ∷ store 758 (store 758 opened.memory 1 698 250) 1 11 1)
    ∷ computed (outcome_of stepped_twice ++ stepped_twice.memory)
    (0 ∷ 0 ∷ store 758 (store 758 stepped_once.memory 0 698 250) 1 11 2)
    -- Asked for its desk, a card with a release open answers the own one, though the release counts.
    ∷ computed (outcome_of asked_in_motion ++ asked_in_motion.words) (0 ∷ 0 ∷ numbers_from 30 8)
    -- The stores of release 5 of card 1, whose backup is card 2: each price at the secondary, then at the primary; an
    -- odd number's desk to the odd desk, the stamp, the committed words, and last the done mark.
    ∷ computed (writes_in_order (release_writes small_rack 2 1 (release_of 5 desk) two_prices))
    (1 ∷ 698 ∷ 1 ∷ 250 ∷ 0 ∷ 698 ∷ 1 ∷ 250 ∷ 1 ∷ 699 ∷ 1 ∷ 199 ∷ 0 ∷ 699 ∷ 1 ∷ 199 ∷ 2 ∷ 54 ∷ 1 ∷ 50
    ∷ 2 ∷ 55 ∷ 1 ∷ 51 ∷ 2 ∷ 56 ∷ 1 ∷ 52 ∷ 2 ∷ 57 ∷ 1 ∷ 53 ∷ 2 ∷ 58 ∷ 1 ∷ 54 ∷ 2 ∷ 59 ∷ 1 ∷ 55 ∷ 2 ∷ 60 ∷ 1 ∷ 56
    ∷ 2 ∷ 61 ∷ 1 ∷ 57 ∷ 2 ∷ 42 ∷ 2 ∷ 5 ∷ 0 ∷ 1 ∷ 730 ∷ 1 ∷ 250 ∷ 0 ∷ 730 ∷ 1 ∷ 250 ∷ 1 ∷ 731 ∷ 1 ∷ 199
    ∷ 0 ∷ 731 ∷ 1 ∷ 199 ∷ 2 ∷ 44 ∷ 2 ∷ 5 ∷ 0 ∷ [])
    -- An even number's desk goes to the even desk, also where its high word is odd. A release of no price has ten
    -- stores; stamp and done mark are one store each, of both words.
    ∷ computed (writes_in_order (release_writes small_rack 2 1 (release_of 12884901894 desk) []))
    (2 ∷ 46 ∷ 1 ∷ 50 ∷ 2 ∷ 47 ∷ 1 ∷ 51 ∷ 2 ∷ 48 ∷ 1 ∷ 52 ∷ 2 ∷ 49 ∷ 1 ∷ 53 ∷ 2 ∷ 50 ∷ 1 ∷ 54 ∷ 2 ∷ 51 ∷ 1 ∷ 55
    ∷ 2 ∷ 52 ∷ 1 ∷ 56 ∷ 2 ∷ 53 ∷ 1 ∷ 57 ∷ 2 ∷ 42 ∷ 2 ∷ 6 ∷ 3 ∷ 2 ∷ 44 ∷ 2 ∷ 6 ∷ 3 ∷ [])
    -- The close takes number and desk for own stamp and desk, and zeroes the release's words and the list's; records
    -- and pages stay.
    ∷ computed (close 758 (numbers_from 0 758) 0)
    (numbers_from 12 10 ++ zeros 12 ++ numbers_from 22 160 ++ zeros 512 ++ numbers_from pages_start 64)
    ∷ []
