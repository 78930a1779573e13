-- Worked examples of words stored, computed from the definitions.
-- Assumes nothing: these are definitions.
use Rattle.std.specs.Prelude.{ℕ, List, [], ◌∷◌}
use Rattle.laws.specs.Examples.{Example, computed}
use Rattle.memory.specs.Words.{load, store, load_run, store_run, clear_run, copy_run}

-- three areas of four words, each word telling its card and its offset
abbrev pub three_areas : List ℕ
three_areas = 10 ∷ 11 ∷ 12 ∷ 13 ∷ 20 ∷ 21 ∷ 22 ∷ 23 ∷ 30 ∷ 31 ∷ 32 ∷ 33 ∷ []

abbrev pub examples : List Example
examples =
    -- a word is found by card and offset, and stored there alone
    computed (load 4 three_areas 2 1 ∷ store 4 three_areas 1 3 5)
    (31 ∷ 10 ∷ 11 ∷ 12 ∷ 13 ∷ 20 ∷ 21 ∷ 22 ∷ 5 ∷ 30 ∷ 31 ∷ 32 ∷ 33 ∷ [])
    -- a run of words loaded, stored and cleared
    ∷ computed (load_run 4 three_areas 1 1 2) (21 ∷ 22 ∷ [])
    ∷ computed (store_run 4 three_areas 1 2 (5 ∷ 6 ∷ []))
    (10 ∷ 11 ∷ 12 ∷ 13 ∷ 20 ∷ 21 ∷ 5 ∷ 6 ∷ 30 ∷ 31 ∷ 32 ∷ 33 ∷ [])
    ∷ computed (clear_run 4 three_areas 0 1 2) (10 ∷ 0 ∷ 0 ∷ 13 ∷ 20 ∷ 21 ∷ 22 ∷ 23 ∷ 30 ∷ 31 ∷ 32 ∷ 33 ∷ [])
    -- three words copied from offset 0 of card 2 to offset 1 of card 0
    ∷ computed (copy_run 4 three_areas 2 0 0 1 3) (10 ∷ 30 ∷ 31 ∷ 32 ∷ 20 ∷ 21 ∷ 22 ∷ 23 ∷ 30 ∷ 31 ∷ 32 ∷ 33 ∷ [])
    ∷ []
