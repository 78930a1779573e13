-- Joins and desk questions: worked examples. Every word of the memory is its own index, so that it shows where each
-- word comes from.
-- Assumes nothing: these are definitions.
use Rattle.std.specs.Prelude.{List, [], ◌∷◌, ◌++◌, replicate}
use Rattle.laws.specs.Examples.{Example, computed}
use Rattle.directory.specs.declared.Directory.{Directory}
use Rattle.directory.specs.Directory.{formatted_directory, marked_dead, with_homes}
use Rattle.area.specs.Prelude.{zeros}
use Rattle.area.specs.Examples.{numbers_from}
use Rattle.protocol.specs.Result.{Result}
use Rattle.protocol.specs.Join.{joined_memory, join}
use Rattle.protocol.specs.DeskQuestion.{desk_of}
use Rattle.protocol.specs.Examples.Racks.{outcome_of, directory_words}

-- Cards 1 and 2 of four are dead; one page, on cards 3 and 0. An area has 758 words.
abbrev pub two_dead : Directory
two_dead = marked_dead (marked_dead (with_homes (formatted_directory 4 1) 0 3 0) 1) 2

-- Card 1 joins, in whose area are threes.
unfoldable pub joined : Result
joined = join two_dead (zeros 758 ++ replicate 758 3 ++ zeros 1516) 1

abbrev pub join_examples : List Example
join_examples =
    -- A join zeroes the whole area of card 1, and gives it stamp and desk of its record on card 3, its next live; on
    -- it stand the record of card 2, whole, from card 3, and that of card 0, made from its own stamp and desk. No
    -- other area changes.
    computed (joined_memory two_dead 1 (numbers_from 0 3032))
    (numbers_from 0 758 ++ 2316 ∷ 2317 ∷ numbers_from 2320 8 ++ zeros 12 ++ 0 ∷ 1 ∷ 0 ∷ 1 ∷ numbers_from 2 8 ++ zeros 28
    ++ numbers_from 2336 20 ++ zeros 676 ++ numbers_from 1516 1516)
    -- It marks the card live and moves no home; where all records are zero, so is the whole area.
    ∷ computed (outcome_of joined ++ directory_words joined.directory) (0 ∷ 0 ∷ 1 ∷ 1 ∷ 0 ∷ 1 ∷ 3 ∷ 0 ∷ 0 ∷ [])
    ∷ computed joined.memory (zeros 3032)
    -- A desk question gives the own desk of a live card, and the desk of a dead one's record on its next live card.
    ∷ computed (desk_of two_dead (numbers_from 0 3032) 3 ++ desk_of two_dead (numbers_from 0 3032) 1)
    (numbers_from 2276 8 ++ numbers_from 2320 8)
    ∷ []
