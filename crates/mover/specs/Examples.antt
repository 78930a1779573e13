-- The mover: worked examples, computed from the definitions. Racks of three cards and one page, on cards 0 and 1; an area
-- has 740 words in the old form and 758 in the new.
-- Assumes nothing: these are definitions.
use Rattle.std.specs.Prelude.{ℕ, zero, suc, List, [], ◌∷◌, ◌++◌, replicate}
use Rattle.laws.specs.Examples.{Example, computed}
use Rattle.directory.specs.declared.Directory.{Directory}
use Rattle.directory.specs.Directory.{formatted_directory, with_homes}
use Rattle.area.specs.Prelude.{store, store_run, zeros, release_of, write_record}
use Rattle.area.specs.Examples.{numbers_from}
use Rattle.protocol.specs.Result.{Result}
use Rattle.protocol.specs.Calls.{opening, step, failure, recovery}
use Rattle.protocol.specs.Examples.Racks.{small_rack, small_memory, words_at, outcome_of}
use Rattle.protocol.specs.Examples.Refusals.{two_cards, awaiting_card2, one_price_at}
use Rattle.mover.specs.Forms.{old_form, new_form, own_desk_in, open_flag_in, steps_made_in, release_number_in, release_desk_in}
use Rattle.mover.specs.Forms.{record_in, record_done_in, record_desks_in, record_size_in, list_start_in, page_in, area_size_in}
use Rattle.mover.specs.Fields.{area_fields, moved}
use Rattle.mover.specs.Move.{move_in, move_back}

-- ---- moves of racks, into memories of sevens

-- an old memory, with a word of a card set
abbrev pub old_with : ℕ → ℕ → ℕ → List ℕ
old_with card offset v = store 740 (zeros 2220) card offset v

-- release 1 open on a card of it: its list, of one price or faulty
abbrev pub old_open_on : ℕ → List ℕ → List ℕ
old_open_on card list = store_run 740 (store_run 740 (zeros 2220) card 9 (1 ∷ 0 ∷ 1 ∷ [])) card 164 list

abbrev pub one_price : List ℕ
one_price = one_price_at 4

abbrev pub comes_in : Directory → List ℕ → List ℕ
comes_in d old = outcome_of (move_in d old (replicate 2274 7))

-- each area's words are their offsets, but for the mark of an open release, which is 0: what has been released before is
-- left in stamps, desks, records, list and pages
abbrev pub used_area : List ℕ
used_area = numbers_from 0 9 ++ 0 ∷ numbers_from 10 730

abbrev pub old_used : List ℕ
old_used = used_area ++ used_area ++ used_area

-- a memory of the new form, with words of a card set
abbrev pub new_with : ℕ → ℕ → List ℕ → List ℕ
new_with card offset vs = store_run 758 small_memory card offset vs

abbrev pub comes_back : Directory → List ℕ → List ℕ
comes_back d new = outcome_of (move_back d new (replicate 2220 7))

-- the memory that was used, moved in; and one of its areas
unfoldable pub used_in : List ℕ
used_in = (move_in small_rack old_used (replicate 2274 7)).memory

abbrev pub moved_area : List ℕ
moved_area = moved old_form new_form (area_fields 1) used_area

-- ---- a rack whose card 1 has closed release 4294967295, and releases words 4 and 5 of page 0 as the next

abbrev pub desk : List ℕ
desk = numbers_from 50 8

unfoldable pub at_highest : List ℕ
at_highest =
    store_run 758 (write_record 758 small_memory 2 1 (release_of 4294967295 desk)) 1 0 (4294967295 ∷ 0 ∷ desk)

unfoldable pub opened : Result
opened =
    opening small_rack at_highest 1 (release_of 4294967296 desk) (0x10000000 ∷ 0x20040002 ∷ 250 ∷ 199 ∷ 0xF0000004 ∷ [])

unfoldable pub stepped : ℕ → Result → Result
stepped zero r = r
stepped (suc n) r = stepped n (step r.directory r.memory 1)

unfoldable pub closed : Result
closed = stepped 19 opened

-- card 1 has failed since, and was recovered
unfoldable pub recovered : Result
recovered =
    let dead : Result = failure closed.directory closed.memory 1 in
    recovery dead.directory dead.memory

-- the words that stand in its record on the two live cards are those of release 0
unfoldable pub cleared : List ℕ
cleared = store_run 758 (store_run 758 recovered.memory 0 42 (zeros 4)) 2 42 (zeros 4)

unfoldable pub cleared_back : Result
cleared_back = move_back recovered.directory cleared (replicate 2220 7)

abbrev pub examples : List Example
examples =
    -- document 01's table: own desk, release open, steps, number, desk; record of cards 0 and 1, done mark, desks, how
    -- many words; list, pages 0 and 1, areas of 1, 4 and 64 pages
    computed
    (own_desk_in old_form ∷ open_flag_in old_form ∷ steps_made_in old_form ∷ release_number_in old_form ∷ release_desk_in old_form
    ∷ record_in old_form 0 ∷ record_in old_form 1 ∷ record_done_in old_form 1 ∷ record_desks_in old_form 1 ∷ record_size_in old_form
    ∷ list_start_in old_form ∷ page_in old_form 0 ∷ page_in old_form 1 ∷ area_size_in old_form 1 ∷ area_size_in old_form 4
    ∷ area_size_in old_form 64 ∷ [])
    (1 ∷ 9 ∷ 10 ∷ 11 ∷ 12 ∷ 20 ∷ 38 ∷ 39 ∷ 40 ∷ 18 ∷ 164 ∷ 676 ∷ 740 ∷ 740 ∷ 932 ∷ 4772 ∷ [])
    -- An area each word of which is its offset, moved in: a 0 stands behind each number; own stamp, the release's
    -- number, stamps and done marks of eight records. Nothing else changes.
    ∷ computed (moved old_form new_form (area_fields 1) (numbers_from 0 740))
    (0 ∷ 0 ∷ numbers_from 1 10 ++ 11 ∷ 0 ∷ numbers_from 12 8
    ++ 20 ∷ 0 ∷ 21 ∷ 0 ∷ numbers_from 22 16 ++ 38 ∷ 0 ∷ 39 ∷ 0 ∷ numbers_from 40 16
    ++ 56 ∷ 0 ∷ 57 ∷ 0 ∷ numbers_from 58 16 ++ 74 ∷ 0 ∷ 75 ∷ 0 ∷ numbers_from 76 16
    ++ 92 ∷ 0 ∷ 93 ∷ 0 ∷ numbers_from 94 16 ++ 110 ∷ 0 ∷ 111 ∷ 0 ∷ numbers_from 112 16
    ++ 128 ∷ 0 ∷ 129 ∷ 0 ∷ numbers_from 130 16 ++ 146 ∷ 0 ∷ 147 ∷ 0 ∷ numbers_from 148 16
    ++ numbers_from 164 576)
    -- Moved back, the word behind each number is dropped.
    ∷ computed (moved new_form old_form (area_fields 1) (numbers_from 0 758))
    (0 ∷ numbers_from 2 10 ++ 12 ∷ numbers_from 14 8
    ++ 22 ∷ 24 ∷ numbers_from 26 16 ++ 42 ∷ 44 ∷ numbers_from 46 16
    ++ 62 ∷ 64 ∷ numbers_from 66 16 ++ 82 ∷ 84 ∷ numbers_from 86 16
    ++ 102 ∷ 104 ∷ numbers_from 106 16 ++ 122 ∷ 124 ∷ numbers_from 126 16
    ++ 142 ∷ 144 ∷ numbers_from 146 16 ++ 162 ∷ 164 ∷ numbers_from 166 16
    ++ numbers_from 182 576)
    -- A move writes every word of the other memory, dead cards' too; a refused one keeps them.
    ∷ computed (move_in two_cards (zeros 2220) (replicate 2274 7)).memory (zeros 2274)
    ∷ computed (move_back two_cards (zeros 2274) (replicate 2220 7)).memory (zeros 2220)
    ∷ computed (move_in awaiting_card2 (zeros 2220) (replicate 2274 7)).memory (replicate 2274 7)
    ∷ computed (move_back awaiting_card2 (zeros 2274) (replicate 2220 7)).memory (replicate 2220 7)
    -- A memory that was used is moved in area by area, and comes back as it was.
    ∷ computed (comes_in small_rack old_used ++ used_in)
    (0 ∷ 0 ∷ moved_area ++ moved_area ++ moved_area)
    ∷ computed (comes_back small_rack used_in ++ (move_back small_rack used_in (replicate 2220 7)).memory) (0 ∷ 0 ∷ old_used)
    -- Either memory of another length is refused with 1, both ways, also before a rack that does not fit.
    ∷ computed
    (outcome_of (move_in small_rack (zeros 2219) (zeros 2274)) ++ outcome_of (move_in small_rack (zeros 2221) (zeros 2274))
    ++ outcome_of (move_in small_rack (zeros 2220) (zeros 2273)) ++ outcome_of (move_in small_rack (zeros 2220) (zeros 2275))
    ++ outcome_of (move_back small_rack (zeros 2274) (zeros 2219)) ++ outcome_of (move_back small_rack (zeros 2273) (zeros 2220))
    ++ outcome_of (move_in (with_homes small_rack 0 1 1) (zeros 2220) (zeros 2220))
    ++ outcome_of (move_in (formatted_directory 3 0) (zeros 2028) (zeros 2082)))
    (1 ∷ 0 ∷ 1 ∷ 0 ∷ 1 ∷ 0 ∷ 1 ∷ 0 ∷ 1 ∷ 0 ∷ 1 ∷ 0 ∷ 1 ∷ 0 ∷ 1 ∷ 0 ∷ [])
    -- Going in, 2 and 15 are read in the old form, of live cards: word 9, the steps in word 10, the list from word 164.
    -- A rack that does not fit is refused with 2, also while a recovery is awaited; then 11, then 15.
    ∷ computed
    (comes_in small_rack (zeros 2220) ++ comes_in small_rack (old_with 2 9 2) ++ comes_in two_cards (old_with 2 9 2)
    ++ comes_in small_rack (old_with 2 10 2) ++ comes_in awaiting_card2 (old_with 1 9 2)
    ++ comes_in small_rack (old_open_on 1 one_price) ++ comes_in small_rack (old_open_on 1 (9 ∷ []))
    ++ comes_in small_rack (store 740 (old_open_on 1 one_price) 1 10 15) ++ comes_in awaiting_card2 (old_open_on 1 one_price)
    ++ comes_in two_cards (old_open_on 2 one_price))
    (0 ∷ 0 ∷ 2 ∷ 0 ∷ 0 ∷ 0 ∷ 0 ∷ 0 ∷ 2 ∷ 0 ∷ 15 ∷ 0 ∷ 2 ∷ 0 ∷ 2 ∷ 0 ∷ 11 ∷ 0 ∷ 0 ∷ 0 ∷ [])
    -- Going back, in the new one: word 10 and the list from word 182.
    ∷ computed
    (comes_back small_rack (new_with 2 10 (2 ∷ [])) ++ comes_back small_rack (new_with 2 9 (2 ∷ []))
    ++ comes_back small_rack (store_run 758 (new_with 1 10 (1 ∷ 0 ∷ 1 ∷ 0 ∷ [])) 1 182 one_price)
    ++ comes_back small_rack (new_with 1 10 (1 ∷ 0 ∷ 1 ∷ 0 ∷ [])))
    (2 ∷ 0 ∷ 0 ∷ 0 ∷ 15 ∷ 0 ∷ 2 ∷ 0 ∷ [])
    -- 20: an own stamp above 4294967295, and a stamp or done mark of any of the eight records of a live card, also of
    -- card 7, which the rack has not. The high words of a release's number, where none is open, and of a dead card are
    -- dropped.
    ∷ computed
    (comes_back small_rack (new_with 1 0 (4294967295 ∷ 0 ∷ [])) ++ comes_back small_rack (new_with 1 0 (0 ∷ 1 ∷ []))
    ++ comes_back small_rack (new_with 0 163 (1 ∷ [])) ++ comes_back small_rack (new_with 0 165 (1 ∷ []))
    ++ comes_back small_rack (new_with 2 23 (1 ∷ [])) ++ comes_back small_rack (new_with 1 13 (9 ∷ []))
    ++ comes_back two_cards (new_with 2 0 (0 ∷ 1 ∷ [])) ++ comes_back two_cards (new_with 2 163 (1 ∷ [])))
    (0 ∷ 0 ∷ 20 ∷ 0 ∷ 20 ∷ 0 ∷ 20 ∷ 0 ∷ 20 ∷ 0 ∷ 0 ∷ 0 ∷ 0 ∷ 0 ∷ 0 ∷ 0 ∷ [])
    -- It is checked last.
    ∷ computed
    (comes_back awaiting_card2 (new_with 1 0 (0 ∷ 1 ∷ [])) ++ comes_back (with_homes small_rack 0 1 1) (new_with 1 0 (0 ∷ 1 ∷ []))
    ++ comes_back small_rack (store_run 758 (store_run 758 (new_with 1 0 (0 ∷ 1 ∷ [])) 1 10 (1 ∷ [])) 1 182 one_price))
    (11 ∷ 0 ∷ 2 ∷ 0 ∷ 15 ∷ 0 ∷ [])
    -- At stamp 4294967295, number 4294967296 is taken; after step 13 the record reads 0 1 4294967295 0, after the close
    -- 0 1 0 1 and the own stamp 0 1; then a move back is refused with 20.
    ∷ computed
    (outcome_of opened ++ words_at 758 (stepped 12 opened).memory 2 42 4 ++ words_at 758 (stepped 13 opened).memory 2 42 4
    ++ words_at 758 closed.memory 2 42 4 ++ words_at 758 closed.memory 1 0 2
    ++ comes_back closed.directory closed.memory)
    (0 ∷ 0 ∷ 4294967295 ∷ 0 ∷ 4294967295 ∷ 0 ∷ 0 ∷ 1 ∷ 4294967295 ∷ 0 ∷ 0 ∷ 1 ∷ 0 ∷ 1 ∷ 0 ∷ 1 ∷ 20 ∷ 0 ∷ [])
    -- So it is once the card is dead and recovered: its records stand on live cards. Once these are cleared, it is taken,
    -- and the high word of the dead card's own stamp is dropped: its area starts with the stamp 0 and the desk.
    ∷ computed
    (outcome_of recovered ++ comes_back recovered.directory recovered.memory ++ outcome_of cleared_back
    ++ words_at 740 cleared_back.memory 1 0 9)
    (0 ∷ 4294967296 ∷ 20 ∷ 0 ∷ 0 ∷ 0 ∷ 0 ∷ desk)
    ∷ []
