-- Where things stand in a card's area (document 01, "Cards, pages, memory", the table of words). Each row starts where
-- the row before it ends, so that a size is written once. src/layout.rt has the same table. Numbers take two words since
-- document 02, request 5; `mover`, specs/Forms.antt, has the table of before.
-- Assumes nothing: these are definitions.
use Rattle.std.specs.Prelude.{ℕ, ◌+◌, ◌*◌, ◌%◌}

-- ---- sizes

-- words of a release's number, of a stamp and of a done mark
abbrev pub number_size : ℕ
number_size = 2

-- 8 words that the price desk wants back
abbrev pub desk_size : ℕ
desk_size = 8

-- ---- 0–1; 2–9: own stamp; own desk

abbrev pub own_stamp : ℕ
own_stamp = 0

abbrev pub own_desk : ℕ
own_desk = own_stamp + number_size

abbrev pub own_size : ℕ
own_size = number_size + desk_size

-- ---- 10; 11; 12–13; 14–21: release open (0 or 1); steps made; its number; its desk

abbrev pub open_flag : ℕ
open_flag = own_stamp + own_size

abbrev pub steps_made : ℕ
steps_made = open_flag + 1

abbrev pub release_number : ℕ
release_number = steps_made + 1

abbrev pub release_desk : ℕ
release_desk = release_number + number_size

abbrev pub release_size : ℕ
release_size = 2 + number_size + desk_size

-- ---- 22–181: for each card c a record of 20 words: stamp, done mark, even desk, odd desk

abbrev pub records_start : ℕ
records_start = open_flag + release_size

-- a rack has at most eight cards
abbrev pub record_count : ℕ
record_count = 8

abbrev pub record_size : ℕ
record_size = 2 * number_size + 2 * desk_size

-- the desk of a release by its number, in a record: the even desk if the number is even, else the odd one
abbrev pub desk_in_record : ℕ → ℕ
desk_in_record number = 2 * number_size + desk_size * (number % 2)

abbrev pub record_at : ℕ → ℕ
record_at c = records_start + record_size * c

abbrev pub record_stamp : ℕ → ℕ
record_stamp c = record_at c

abbrev pub record_done : ℕ → ℕ
record_done c = record_at c + number_size

abbrev pub record_desk : ℕ → ℕ → ℕ
record_desk c number = record_at c + desk_in_record number

-- ---- 182–693: the open release's list, from its first word

abbrev pub list_start : ℕ
list_start = record_at record_count

abbrev pub list_size : ℕ
list_size = 512

-- ---- 694 + 64p: page p: 32 tentative words, then 32 committed

abbrev pub pages_start : ℕ
pages_start = list_start + list_size

-- the words of a page, in each of its halves
abbrev pub page_size : ℕ
page_size = 32

abbrev pub stored_page_size : ℕ
stored_page_size = 2 * page_size

abbrev pub page_at : ℕ → ℕ
page_at p = pages_start + stored_page_size * p

-- where each half of a page starts in it
abbrev pub tentative_half : ℕ
tentative_half = 0

abbrev pub committed_half : ℕ
committed_half = tentative_half + page_size

abbrev pub tentative : ℕ → ℕ
tentative p = page_at p + tentative_half

abbrev pub committed : ℕ → ℕ
committed p = page_at p + committed_half

-- "its area to 694 + 64 × pages"
abbrev pub area_size : ℕ → ℕ
area_size pages = page_at pages
