-- Worked examples of diffs, computed from the definitions: where a faulty one is refused, how long one may be, and
-- what the list maker writes. No theorem on diffs sees the place of a fault or the longest list.
-- Assumes nothing: these are definitions.
use Rattle.std.specs.Prelude.{ℕ, List, [], ◌∷◌, ◌++◌, replicate}
use Rattle.laws.specs.Examples.{Example, computed}
use Rattle.answer.specs.Outcome.{in_words}
use Rattle.diff.specs.Reading.{check_diff}
use Rattle.diff.specs.Making.{made_diff, make_diff, buffer_after, mark_changes, marks_after}

-- a list handed in to a rack of 4 pages: 0 and the number of its prices, or 7 and the place
abbrev pub checked : List ℕ → List ℕ
checked list = in_words (check_diff 4 list)

-- ---- the longest list

-- 16 pages of ones
unfoldable pub one_prices : List ℕ
one_prices = replicate 512 1

-- 14 whole pages, 30 words of a page and one of the last: 14 × 34 + 32 + 3 words, and the end word
abbrev pub full_marks : List ℕ
full_marks = replicate 14 0xFFFFFFFF ++ 0x3FFFFFFF ∷ 1 ∷ []

-- one price more, on the page of 30
abbrev pub overfull_marks : List ℕ
overfull_marks = replicate 14 0xFFFFFFFF ++ 0x7FFFFFFF ∷ 1 ∷ []

-- so many whole pages, of 16
abbrev pub whole_marks : ℕ → ℕ → List ℕ
whole_marks whole others = replicate whole 0xFFFFFFFF ++ replicate others 0

-- ---- pages of prices, lent to the maker

-- page 0: words 0 and 31 are new, word 5 as it was; page 1: words 0, 1 and 3 are new
unfoldable pub working_pages : List ℕ
working_pages = 7 ∷ (replicate 4 0 ++ 9 ∷ (replicate 25 0 ++ 8 ∷ 1 ∷ 2 ∷ 0 ∷ 3 ∷ replicate 28 0))

unfoldable pub twin_pages : List ℕ
twin_pages = 0 ∷ (replicate 4 0 ++ 9 ∷ replicate 58 0)

-- 4 pages, of which page 1 has 250 and 199 at words 2 and 3, and 4 pages of zeros
unfoldable pub priced_pages : List ℕ
priced_pages = replicate 34 0 ++ 250 ∷ 199 ∷ replicate 92 0

unfoldable pub zero_pages : List ℕ
zero_pages = replicate 128 0

-- what the maker answers for 4 pages whose twins are zero, by the marks of page 1, and its buffer
abbrev pub made_of : List ℕ → ℕ → List ℕ
made_of working marks =
    in_words (make_diff working zero_pages (0 ∷ marks ∷ 0 ∷ 0 ∷ []) 6)
    ++ buffer_after working zero_pages (0 ∷ marks ∷ 0 ∷ 0 ∷ []) (replicate 6 7)

abbrev pub examples : List Example
examples =
    -- a word of a kind that no list has is the place
    computed (checked (0x10000001 ∷ 0x20020001 ∷ 5 ∷ 0x30000000 ∷ 0xF0000004 ∷ [])) (7 ∷ 3 ∷ [])
    -- a page past the rack's, and one named again
    ∷ computed (checked (0x10000004 ∷ 0x20020001 ∷ 5 ∷ 0xF0000003 ∷ [])) (7 ∷ 0 ∷ [])
    ∷ computed (checked (0x10000001 ∷ 0x20020001 ∷ 5 ∷ 0x10000001 ∷ 0x20040001 ∷ 5 ∷ 0xF0000006 ∷ [])) (7 ∷ 3 ∷ [])
    -- of a page without a run the word after it: another page, the end word, the length where nothing follows
    ∷ computed (checked (0x10000001 ∷ 0x10000002 ∷ 0x20020001 ∷ 5 ∷ 0xF0000004 ∷ [])) (7 ∷ 1 ∷ [])
    ∷ computed (checked (0x10000001 ∷ 0xF0000001 ∷ [])) (7 ∷ 1 ∷ [])
    ∷ computed (checked (0x10000001 ∷ [])) (7 ∷ 1 ∷ [])
    -- a run before any page, one of no price, and one that begins where the last ended
    ∷ computed (checked (0x20020001 ∷ 5 ∷ 0xF0000002 ∷ [])) (7 ∷ 0 ∷ [])
    ∷ computed (checked (0x10000001 ∷ 0x20020000 ∷ 0xF0000002 ∷ [])) (7 ∷ 1 ∷ [])
    ∷ computed (checked (0x10000001 ∷ 0x20020001 ∷ 5 ∷ 0x20030001 ∷ 6 ∷ 0xF0000005 ∷ [])) (7 ∷ 3 ∷ [])
    -- a run that leaves one word out is allowed, and so is one at the end of its page
    ∷ computed (checked (0x10000001 ∷ 0x20020001 ∷ 5 ∷ 0x20040001 ∷ 6 ∷ 0xF0000005 ∷ [])) (0 ∷ 2 ∷ [])
    ∷ computed (checked (0x10000003 ∷ 0x201E0002 ∷ 5 ∷ 6 ∷ 0xF0000004 ∷ [])) (0 ∷ 2 ∷ [])
    -- an end word with another index is the place, also where words follow it
    ∷ computed (checked (0x10000001 ∷ 0x20020001 ∷ 5 ∷ 0xF0000004 ∷ 9 ∷ [])) (7 ∷ 3 ∷ [])
    -- of words behind the end word the first
    ∷ computed (checked (0x10000001 ∷ 0x20020001 ∷ 5 ∷ 0xF0000003 ∷ 9 ∷ 9 ∷ [])) (7 ∷ 4 ∷ [])
    -- a list that stops early is refused at its length, also in the middle of a run
    ∷ computed (checked (0x10000001 ∷ 0x20020001 ∷ 5 ∷ [])) (7 ∷ 3 ∷ [])
    ∷ computed (checked (0x10000001 ∷ 0x20020004 ∷ 5 ∷ 6 ∷ [])) (7 ∷ 4 ∷ [])
    -- 512 words are a list, 513 are refused at 512
    ∷ computed (in_words (check_diff 64 (made_diff one_prices full_marks))) (0 ∷ 479 ∷ [])
    ∷ computed (in_words (check_diff 64 (made_diff one_prices overfull_marks))) (7 ∷ 512 ∷ [])
    -- of a longer list the first fault is the place all the same
    ∷ computed (checked (replicate 600 0) ++ checked (0xF0000000 ∷ replicate 599 0)) (7 ∷ 0 ∷ 7 ∷ 1 ∷ [])
    -- the maker makes the one of 512 words in as many, and in no fewer; it does not make the other
    ∷ computed (in_words (make_diff one_prices one_prices full_marks 512)) (0 ∷ 512 ∷ [])
    ∷ computed (in_words (make_diff one_prices one_prices full_marks 511)) (17 ∷ 0 ∷ [])
    ∷ computed (in_words (make_diff one_prices one_prices overfull_marks 600)) (17 ∷ 0 ∷ [])
    -- 15 whole pages are 511 words, 16 too many; a whole page and every other word of one, with their end words
    ∷ computed (in_words (make_diff one_prices one_prices (whole_marks 15 1) 511)) (0 ∷ 511 ∷ [])
    ∷ computed (in_words (make_diff one_prices one_prices (whole_marks 16 0) 600)) (17 ∷ 0 ∷ [])
    ∷ computed (in_words (make_diff one_prices one_prices (whole_marks 1 15) 35)) (0 ∷ 35 ∷ [])
    ∷ computed (in_words (make_diff one_prices one_prices (0x55555555 ∷ whole_marks 0 15) 34)) (0 ∷ 34 ∷ [])
    -- marked words are named, also one that is equal to its twin; one that differs and is not marked is not named
    ∷ computed (made_of priced_pages 12) (0 ∷ 5 ∷ 0x10000001 ∷ 0x20020002 ∷ 250 ∷ 199 ∷ 0xF0000004 ∷ 7 ∷ [])
    ∷ computed (made_of zero_pages 4) (0 ∷ 4 ∷ 0x10000001 ∷ 0x20020001 ∷ 0 ∷ 0xF0000003 ∷ 7 ∷ 7 ∷ [])
    ∷ computed (made_of priced_pages 4) (0 ∷ 4 ∷ 0x10000001 ∷ 0x20020001 ∷ 250 ∷ 0xF0000003 ∷ 7 ∷ 7 ∷ [])
    ∷ computed (made_of priced_pages 0) (0 ∷ 1 ∷ 0xF0000000 ∷ 7 ∷ 7 ∷ 7 ∷ 7 ∷ 7 ∷ [])
    -- words that follow one another are one run, up to the end of their page; what stands behind the list is kept
    ∷ computed (buffer_after working_pages twin_pages (0x80000001 ∷ 11 ∷ []) (replicate 14 4))
    (0x10000000 ∷ 0x20000001 ∷ 7 ∷ 0x201F0001 ∷ 8 ∷ 0x10000001 ∷ 0x20000002 ∷ 1 ∷ 2 ∷ 0x20030001 ∷ 3 ∷ 0xF000000B ∷ 4
    ∷ 4 ∷ [])
    -- a buffer that is one word too short is kept
    ∷ computed (buffer_after working_pages twin_pages (0x80000001 ∷ 11 ∷ []) (replicate 11 4)) (replicate 11 4)
    -- lent pages: as many of each, whole pages, 1 to 64
    ∷ computed (in_words (make_diff (replicate 64 1) (replicate 32 0) (0 ∷ 0 ∷ []) 99)) (1 ∷ 0 ∷ [])
    ∷ computed (in_words (make_diff (replicate 33 1) (replicate 33 0) (0 ∷ []) 99)) (1 ∷ 0 ∷ [])
    ∷ computed (in_words (make_diff [] [] [] 99)) (1 ∷ 0 ∷ [])
    ∷ computed (in_words (make_diff (replicate 2080 1) (replicate 2080 1) (replicate 65 0) 99)) (1 ∷ 0 ∷ [])
    -- 64 pages, of which the last word is marked
    ∷ computed (in_words (make_diff (replicate 2048 0) (replicate 2048 0) (replicate 63 0 ++ 0x80000000 ∷ []) 600))
    (0 ∷ 4 ∷ [])
    -- one word of marks for each page, looked at before the buffer
    ∷ computed (in_words (make_diff zero_pages zero_pages (0 ∷ 4 ∷ 0 ∷ []) 99)) (1 ∷ 0 ∷ [])
    ∷ computed (in_words (make_diff zero_pages zero_pages (0 ∷ 4 ∷ 0 ∷ []) 0)) (1 ∷ 0 ∷ [])
    ∷ computed (in_words (make_diff zero_pages zero_pages (0 ∷ 4 ∷ 0 ∷ 0 ∷ 0 ∷ []) 99)) (1 ∷ 0 ∷ [])
    ∷ computed (in_words (make_diff (replicate 2048 0) (replicate 2048 0) (replicate 63 0) 99)) (1 ∷ 0 ∷ [])
    -- the marks of what differs, bit w for word w; and where there is another number of them, those that were lent
    ∷ computed (marks_after working_pages twin_pages (7 ∷ 7 ∷ [])) (0x80000001 ∷ 11 ∷ [])
    ∷ computed (marks_after priced_pages zero_pages (replicate 4 7)) (0 ∷ 12 ∷ 0 ∷ 0 ∷ [])
    ∷ computed (in_words (mark_changes 128 128 4) ++ in_words (mark_changes 128 128 5)) (0 ∷ 0 ∷ 1 ∷ 0 ∷ [])
    ∷ computed (marks_after priced_pages zero_pages (replicate 3 7)) (replicate 3 7)
    ∷ []
