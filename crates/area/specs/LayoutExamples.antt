-- Worked examples of the layout, computed from the definitions: each row of the table of a card's area, which
-- no theorem sees.
-- Assumes nothing: these are definitions.
use Rattle.std.specs.Prelude.{List, [], ◌∷◌}
use Rattle.laws.specs.Examples.{Example, computed}
use Rattle.area.specs.Layout.{area_size, desk_size, own_stamp, own_desk, open_flag, steps_made, release_number}
use Rattle.area.specs.Layout.{release_desk, release_size, record_size, record_stamp, record_done, record_desk}
use Rattle.area.specs.Layout.{list_start, list_size, page_size, page_at, tentative_half, committed_half, tentative}
use Rattle.area.specs.Layout.{committed}

abbrev pub layout_examples : List Example
layout_examples =
    -- own stamp and desk, the open release: whether, steps, number, desk; how many words the last four take, and a desk
    computed
    (own_stamp ∷ own_desk ∷ open_flag ∷ steps_made ∷ release_number ∷ release_desk ∷ release_size ∷ desk_size ∷ [])
    (0 ∷ 2 ∷ 10 ∷ 11 ∷ 12 ∷ 14 ∷ 12 ∷ 8 ∷ [])
    -- the records of cards 0 and 1: stamp, done mark, the desk of an even number, that of an odd one
    ∷ computed
    (record_stamp 0 ∷ record_done 0 ∷ record_desk 0 6 ∷ record_desk 0 5 ∷ record_stamp 1 ∷ record_done 1 ∷ record_desk 1 6
    ∷ record_desk 1 5 ∷ record_size ∷ [])
    (22 ∷ 24 ∷ 26 ∷ 34 ∷ 42 ∷ 44 ∷ 46 ∷ 54 ∷ 20 ∷ [])
    -- the list, behind the records of eight cards
    ∷ computed (list_start ∷ list_size ∷ []) (182 ∷ 512 ∷ [])
    -- pages 0 and 1: the tentative words, then the committed ones
    ∷ computed
    (page_at 0 ∷ tentative 0 ∷ committed 0 ∷ page_at 1 ∷ tentative 1 ∷ committed 1 ∷ tentative_half ∷ committed_half
    ∷ page_size ∷ [])
    (694 ∷ 694 ∷ 726 ∷ 758 ∷ 758 ∷ 790 ∷ 0 ∷ 32 ∷ 32 ∷ [])
    -- areas of one, four and 64 pages
    ∷ computed (area_size 1 ∷ area_size 4 ∷ area_size 64 ∷ []) (758 ∷ 950 ∷ 4790 ∷ [])
    ∷ []
