-- Worked examples of two diffs made one, computed from the definitions (document 02, request 9).
-- Assumes nothing: these are definitions.
use Rattle.std.specs.Prelude.{ℕ, zero, suc, ◌+◌, List, [], ◌∷◌, ◌++◌, take, replicate}
use Rattle.laws.specs.Examples.{Example, computed}
use Rattle.answer.specs.Outcome.{in_words, list_too_long}
use Rattle.diff.specs.Format.{page_word, run_word}
use Rattle.diff.specs.Encoding.{ended}
use Rattle.diff.specs.Room.{room_for}
use Rattle.diff.specs.Merging.{merge_diffs, merged_buffer}

-- what merging answers in a buffer of so many sevens, and the buffer after it
abbrev pub merged : List ℕ → List ℕ → ℕ → List ℕ
merged first second room =
    in_words (merge_diffs first second room) ++ merged_buffer first second (replicate room 7)

-- its answer alone, in a buffer of so many words
abbrev pub answered : List ℕ → List ℕ → ℕ → List ℕ
answered first second room = in_words (merge_diffs first second room)

-- labels 34 and 35 at 250 and 199; labels 35 and 64 at 175 and 5
abbrev pub waiting : List ℕ
waiting = 0x10000001 ∷ 0x20020002 ∷ 250 ∷ 199 ∷ 0xF0000004 ∷ []

abbrev pub newer : List ℕ
newer = 0x10000001 ∷ 0x20030001 ∷ 175 ∷ 0x10000002 ∷ 0x20000001 ∷ 5 ∷ 0xF0000006 ∷ []

-- one price of page 0
abbrev pub one : ℕ → ℕ → List ℕ
one word price = ended (page_word 0 ∷ run_word word 1 ∷ price ∷ [])

abbrev pub no_change : List ℕ
no_change = 0xF0000000 ∷ []

-- the same runs on each of n pages from one on
unfoldable pub on_pages : List ℕ → ℕ → ℕ → List ℕ
on_pages runs page zero = []
on_pages runs page (suc n) = page_word page ∷ (runs ++ on_pages runs (page + 1) n)

-- 256 prices, on pages 0 to 7 and on pages 8 to 15: 273 words each
abbrev pub whole_pages : ℕ → List ℕ
whole_pages page = ended (on_pages (run_word 0 32 ∷ replicate 32 1) page 8)

abbrev pub merge_examples : List Example
merge_examples =
    -- the second's price where both name a label, and pages in their order, whichever list names them
    computed (merged waiting newer 9)
    (0 ∷ 8 ∷ 0x10000001 ∷ 0x20020002 ∷ 250 ∷ 175 ∷ 0x10000002 ∷ 0x20000001 ∷ 5 ∷ 0xF0000007 ∷ 7 ∷ [])
    ∷ computed (merged newer waiting 9)
    (0 ∷ 8 ∷ 0x10000001 ∷ 0x20020002 ∷ 250 ∷ 199 ∷ 0x10000002 ∷ 0x20000001 ∷ 5 ∷ 0xF0000007 ∷ 7 ∷ [])
    -- words that follow one another are one run, whichever list names them
    ∷ computed (merged (one 0 1) (one 1 2) 6) (0 ∷ 5 ∷ 0x10000000 ∷ 0x20000002 ∷ 1 ∷ 2 ∷ 0xF0000004 ∷ 7 ∷ [])
    ∷ computed (merged (one 1 2) (one 0 1) 5) (0 ∷ 5 ∷ 0x10000000 ∷ 0x20000002 ∷ 1 ∷ 2 ∷ 0xF0000004 ∷ [])
    -- a word that lies apart is a run of its own
    ∷ computed (merged (one 0 1) (one 2 3) 6) (0 ∷ 6 ∷ 0x10000000 ∷ 0x20000001 ∷ 1 ∷ 0x20020001 ∷ 3 ∷ 0xF0000005 ∷ [])
    -- a price that is equal in both stays
    ∷ computed (merged (one 1 2) (one 1 2) 4) (0 ∷ 4 ∷ 0x10000000 ∷ 0x20010001 ∷ 2 ∷ 0xF0000003 ∷ [])
    -- the list of no change, on either side and on both
    ∷ computed (merged no_change (one 1 2) 4) (0 ∷ 4 ∷ 0x10000000 ∷ 0x20010001 ∷ 2 ∷ 0xF0000003 ∷ [])
    ∷ computed (merged (one 1 2) no_change 4) (0 ∷ 4 ∷ 0x10000000 ∷ 0x20010001 ∷ 2 ∷ 0xF0000003 ∷ [])
    ∷ computed (merged no_change no_change 2) (0 ∷ 1 ∷ 0xF0000000 ∷ 7 ∷ [])
    -- page 63 is the last, whatever a rack has: page 64 is faulty in either list
    ∷ computed (answered (0x1000003F ∷ 0x201F0001 ∷ 5 ∷ 0xF0000003 ∷ []) no_change 4) (0 ∷ 4 ∷ [])
    ∷ computed (answered (0x10000040 ∷ 0x201F0001 ∷ 5 ∷ 0xF0000003 ∷ []) no_change 4) (7 ∷ 0 ∷ [])
    ∷ computed (answered no_change (0x10000040 ∷ 0x201F0001 ∷ 5 ∷ 0xF0000003 ∷ []) 4) (7 ∷ 0 ∷ [])
    -- 7 with its place in the list that has it: the first looked at first, both before the buffer
    ∷ computed (merged [] no_change 1) (7 ∷ 0 ∷ 7 ∷ [])
    ∷ computed (merged (take 3 waiting) [] 0) (7 ∷ 3 ∷ [])
    ∷ computed (merged waiting (take 4 newer) 0) (7 ∷ 4 ∷ [])
    -- a buffer that is one word too short is kept
    ∷ computed (merged waiting newer 7) (17 ∷ 0 ∷ replicate 7 7)
    -- a result of 513 words is too long, also with no buffer; one of 512 has to have room
    ∷ computed (in_words (room_for list_too_long 513 0) ++ in_words (room_for list_too_long 513 600)) (19 ∷ 0 ∷ 19 ∷ 0 ∷ [])
    ∷ computed (in_words (room_for list_too_long 512 511) ++ in_words (room_for list_too_long 512 512)) (17 ∷ 0 ∷ 0 ∷ 512 ∷ [])
    -- a list that lacks its end word is refused at its length, before the result is looked at
    ∷ computed (answered (whole_pages 0) (take 272 (whole_pages 8)) 0) (7 ∷ 272 ∷ [])
    ∷ []
