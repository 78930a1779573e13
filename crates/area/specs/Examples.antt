-- Worked examples of a card's area, computed from the definitions: the layout, and records.
-- Assumes nothing: these are definitions.
use Rattle.std.specs.Prelude.{ℕ, List, [], ◌∷◌, ◌++◌, Bool, cond}
use Rattle.laws.specs.Examples.{Example, computed}
use Rattle.memory.specs.Words.{zeros}
use Rattle.directory.specs.Directory.{table_from}
use Rattle.area.specs.Numbers.{number_words, load_number, store_number}
use Rattle.area.specs.Releases.{Release, release_of}
use Rattle.area.specs.Record.{recorded_release, under_way, settled_record}
use Rattle.area.specs.LayoutExamples.{layout_examples}

-- n numbers from i on: words that all differ, so that it shows where each comes from
abbrev pub numbers_from : ℕ → ℕ → List ℕ
numbers_from i n = table_from (λ j. j) i n

-- a test as a word
abbrev pub bit : Bool → ℕ
bit test = cond test 1 0

-- ---- an area of one page, each word of which is its offset, with a record of card 1

-- with this stamp
abbrev pub record_with : ℕ → Release
record_with stamp = recorded_release 758 (store_number 758 (numbers_from 0 758) 0 42 stamp) 0 1

-- whether one with these two is under way
abbrev pub differs : ℕ → ℕ → ℕ
differs stamp done =
    bit (under_way 758 (store_number 758 (store_number 758 (numbers_from 0 758) 0 42 stamp) 0 44 done) 0 1)

abbrev pub examples : List Example
examples =
    layout_examples
    -- A number is 64 bits, its low word first: the highest of 32 bits, the one above it, the highest of all.
    ++ computed
    (number_words 4294967295 ++ (number_words 4294967296 ++ number_words 18446744073709551615))
    (4294967295 ∷ 0 ∷ 0 ∷ 1 ∷ 4294967295 ∷ 4294967295 ∷ [])
    ∷ computed (load_number 8 (numbers_from 0 8) 0 3 ∷ []) (17179869187 ∷ [])
    -- A record tells its stamp, and the desk of the stamp's evenness, whatever the done mark.
    ∷ computed ((record_with 5).number ∷ (record_with 5).desk) (5 ∷ numbers_from 54 8)
    ∷ computed ((record_with 6).number ∷ (record_with 6).desk) (6 ∷ numbers_from 46 8)
    -- The evenness is that of the whole number, whose high word may be odd.
    ∷ computed ((record_with 4294967296).number ∷ (record_with 4294967296).desk) (4294967296 ∷ numbers_from 46 8)
    ∷ computed ((record_with 8589934593).number ∷ (record_with 8589934593).desk) (8589934593 ∷ numbers_from 54 8)
    -- A release is under way where stamp and done mark differ, also with the done mark above the stamp.
    ∷ computed (differs 5 4 ∷ differs 5 5 ∷ differs 4 5 ∷ []) (1 ∷ 0 ∷ 1 ∷ [])
    -- They differ also where one word of both is the same.
    ∷ computed (differs 4294967301 5 ∷ differs 4294967301 4294967300 ∷ differs 4294967301 4294967301 ∷ [])
    (1 ∷ 1 ∷ 0 ∷ [])
    -- A record that is written anew has the done mark of its stamp, and zeros for the other desk.
    ∷ computed (settled_record (release_of 5 (numbers_from 50 8))) (5 ∷ 0 ∷ 5 ∷ 0 ∷ (zeros 8 ++ numbers_from 50 8))
    ∷ computed (settled_record (release_of 6 (numbers_from 50 8))) (6 ∷ 0 ∷ 6 ∷ 0 ∷ (numbers_from 50 8 ++ zeros 8))
    ∷ computed (settled_record (release_of 12884901892 (numbers_from 50 8)))
    (4 ∷ 3 ∷ 4 ∷ 3 ∷ (numbers_from 50 8 ++ zeros 8))
    ∷ []
