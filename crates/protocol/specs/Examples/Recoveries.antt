-- Recoveries: worked examples. Where whole memories are shown, every word is its own index, so that it shows where each
-- word comes from.
-- Assumes nothing: these are definitions.
use Rattle.std.specs.Prelude.{ℕ, List, [], ◌∷◌, ◌++◌, replicate}
use Rattle.laws.specs.Examples.{Example, computed}
use Rattle.directory.specs.declared.Directory.{Directory}
use Rattle.directory.specs.Directory.{formatted_directory, with_homes}
use Rattle.directory.specs.NewHome.{even_home, next_home}
use Rattle.area.specs.Prelude.{store, store_run, zeros, release_of, write_record, list_start, pages_start}
use Rattle.area.specs.Examples.{numbers_from}
use Rattle.protocol.specs.Result.{Result}
use Rattle.protocol.specs.Opening.{open_memory}
use Rattle.protocol.specs.Failure.{failed_directory}
use Rattle.protocol.specs.Recovery.{close_releases, recovered_memory, recovered_directory, recovery}
use Rattle.protocol.specs.Examples.Racks.{small_rack, words_at, outcome_of, directory_words}

-- ---- card 1 has failed

abbrev pub failed_one : Directory → Directory
failed_one d = failed_directory d 1

-- Three cards and two pages; an area has 822 words. Page 0 is on cards 1 and 0, page 1 on cards 2 and 0.
abbrev pub two_pages : Directory
two_pages = failed_one (with_homes (with_homes (formatted_directory 3 2) 0 1 0) 1 2 0)

-- The record of card 1 is read on card 2, at 42 of its area: the words 1686 and 1687 are its stamp, 1688 and 1689 its
-- done mark.
unfoldable pub rolled_forward : List ℕ
rolled_forward = recovered_memory even_home two_pages 1 (numbers_from 0 2466)

-- There stamp and done mark are one odd number.
unfoldable pub rolled_back : List ℕ
rolled_back = recovered_memory even_home two_pages 1 (store_run 822 (numbers_from 0 2466) 2 42 (replicate 4 1687))

-- Four cards and three pages: page 0 on cards 0 and 3, page 1 on 1 and 2, page 2 on 0 and 1.
abbrev pub three_pages : Directory
three_pages = failed_one (with_homes (with_homes (with_homes (formatted_directory 4 3) 0 0 3) 1 1 2) 2 0 1)

-- Five cards and eight pages, as they are formatted.
abbrev pub eight_pages : Directory
eight_pages = failed_one (formatted_directory 5 8)

-- The small rack, in whose area of card 1, which is dead, are threes.
unfoldable pub dead_area : List ℕ
dead_area = zeros 758 ++ replicate 758 3 ++ zeros 758

-- release 1 of word 4 open on a card, at a price
abbrev pub with_price : ℕ → ℕ → List ℕ → List ℕ
with_price card price m =
    open_memory 758 m card (release_of 1 (numbers_from 50 8)) (0x10000000 ∷ 0x20040001 ∷ price ∷ 0xF0000003 ∷ [])

-- Card 0 has one open, with no step made.
unfoldable pub closed_without1 : List ℕ
closed_without1 = close_releases (failed_one small_rack) 1 (with_price 0 7 dead_area)

-- Card 2 has another open, which prices the same word, and has made its first committed store.
unfoldable pub closed_in_turn : List ℕ
closed_in_turn = close_releases (failed_one small_rack) 1 (store 758 (with_price 2 9 (with_price 0 7 dead_area)) 2 11 12)

-- Card 2 has the record of release 5 of card 1, card 0 has one of release 4.
unfoldable pub recovered : Result
recovered =
    recovery (failed_one small_rack)
    (write_record 758 (write_record 758 dead_area 2 1 (release_of 5 (numbers_from 50 8))) 0 1
    (release_of 4 (numbers_from 90 8)))

-- a card's words 42 to 757 with the record of release 5 of card 1, all else 0
abbrev pub record_of_five : List ℕ
record_of_five = 5 ∷ 0 ∷ 5 ∷ 0 ∷ zeros 8 ++ numbers_from 50 8 ++ zeros 696

abbrev pub recovery_examples : List Example
recovery_examples =
    -- A lost primary is replaced by the secondary, a lost secondary by the live card that is home to the fewest pages.
    -- A page that lost no home stays, though its secondary is not the next live card.
    computed (directory_words (recovered_directory even_home three_pages 1))
    (1 ∷ 0 ∷ 1 ∷ 1 ∷ 0 ∷ 2 ∷ 0 ∷ 3 ∷ 3 ∷ 2 ∷ 0 ∷ [])
    -- Five cards and eight pages. Page 0 goes to card 4, which has 2 pages; page 1 to card 0, the lowest of three that
    -- have 3 then; page 5 to card 3 and not to card 4, for which page 0 counts now; page 6 to card 4.
    ∷ computed (directory_words (recovered_directory even_home eight_pages 1))
    (1 ∷ 0 ∷ 1 ∷ 1 ∷ 1 ∷ 0 ∷ 2 ∷ 2 ∷ 3 ∷ 4 ∷ 0 ∷ 2 ∷ 2 ∷ 4 ∷ 0 ∷ 3 ∷ 4 ∷ 0 ∷ 3 ∷ 4 ∷ 3 ∷ 0 ∷ [])
    -- By document 01's rule each would go to the next live card after its primary.
    ∷ computed (directory_words (recovered_directory next_home eight_pages 1))
    (1 ∷ 0 ∷ 1 ∷ 1 ∷ 1 ∷ 0 ∷ 2 ∷ 2 ∷ 3 ∷ 4 ∷ 0 ∷ 2 ∷ 2 ∷ 2 ∷ 3 ∷ 3 ∷ 4 ∷ 0 ∷ 2 ∷ 3 ∷ 3 ∷ 0 ∷ [])
    -- Four cards and two pages, card 0 failed: page 0 goes to card 3, which is home to none, and page 1 lost nothing.
    ∷ computed (directory_words (recovered_directory even_home (failed_directory (formatted_directory 4 2) 0) 0))
    (0 ∷ 1 ∷ 1 ∷ 1 ∷ 1 ∷ 1 ∷ 3 ∷ 2 ∷ 0 ∷ [])
    -- The same with card 1 failed: page 0 comes first and goes to card 3, so that page 1 goes to card 0.
    ∷ computed (directory_words (recovered_directory even_home (failed_one (formatted_directory 4 2)) 1))
    (1 ∷ 0 ∷ 1 ∷ 1 ∷ 0 ∷ 2 ∷ 3 ∷ 0 ∷ 0 ∷ [])
    -- Rolled forward, each live home of each page has the tentative words in both halves, and card 2, the new home of
    -- page 0, has card 0's. The failed card's record, its even desk kept and its odd desk zero, stands on both live
    -- cards; card 0's, made from its own stamp and desk, on its new backup. No other word changes.
    ∷ computed rolled_forward
    (numbers_from 0 42 ++ 1686 ∷ 1687 ∷ 1686 ∷ 1687 ∷ numbers_from 1690 8 ++ zeros 8 ++ numbers_from 62 632
    ++ numbers_from pages_start 32 ++ numbers_from pages_start 32 ++ numbers_from 758 32 ++ numbers_from 758 32
    ++ numbers_from 822 822
    ++ numbers_from 1644 22 ++ 0 ∷ 1 ∷ 0 ∷ 1 ∷ numbers_from 2 8 ++ zeros 8
    ++ 1686 ∷ 1687 ∷ 1686 ∷ 1687 ∷ numbers_from 1690 8 ++ zeros 8 ++ numbers_from 1706 632
    ++ numbers_from pages_start 32 ++ numbers_from pages_start 32 ++ numbers_from 2402 32 ++ numbers_from 2402 32)
    -- Rolled back, they have the committed ones; of an odd stamp the odd desk is kept, and the even one zero.
    ∷ computed
    (words_at 822 rolled_back 0 pages_start 128 ++ words_at 822 rolled_back 2 pages_start 128 ++ words_at 822 rolled_back 0 42
    20)
    (numbers_from 726 32 ++ numbers_from 726 32 ++ numbers_from 790 32 ++ numbers_from 790 32
    ++ numbers_from 726 32 ++ numbers_from 726 32 ++ numbers_from 2434 32 ++ numbers_from 2434 32
    ++ replicate 4 1687 ++ zeros 8 ++ numbers_from 1698 8)
    -- A live card's release is run to its close. Its stores to the failed card, which is its backup and the page's
    -- secondary, are dropped.
    ∷ computed
    (words_at 758 closed_without1 0 0 14 ++ words_at 758 closed_without1 0 list_start 4 ++ words_at 758 closed_without1 0 698 1
    ++ words_at 758 closed_without1 0 730 1 ++ words_at 758 closed_without1 1 0 758)
    (1 ∷ 0 ∷ numbers_from 50 8 ++ zeros 8 ++ 7 ∷ 7 ∷ replicate 758 3)
    -- One card's release is run to its close before the next card's, from the lowest card on.
    ∷ computed (words_at 758 closed_in_turn 0 730 1) (9 ∷ [])
    -- The answer is the stamp and desk of the record on the next live card after the failed one, not on the lowest.
    ∷ computed (outcome_of recovered ++ recovered.words) (0 ∷ 5 ∷ numbers_from 50 8)
    -- The rack runs again: page 0 keeps its primary, and has the other live card as secondary. The record stands on
    -- both live cards, and the dead card's area is as it was.
    ∷ computed (directory_words recovered.directory) (1 ∷ 0 ∷ 1 ∷ 0 ∷ 2 ∷ 0 ∷ [])
    ∷ computed recovered.memory (zeros 42 ++ record_of_five ++ replicate 758 3 ++ zeros 42 ++ record_of_five)
    ∷ []
