-- The words of a diff, document 01's list of changes ("The list of changes").
-- Assumes nothing: these are definitions.
use Rattle.std.specs.Prelude.{ℕ, ◌+◌, ◌*◌, ◌/◌, ◌%◌}

-- "A word's top four bits are its kind."
abbrev pub kind : ℕ → ℕ
kind w = w / 0x10000000

-- the page of a page word, the index of an end word: the low 28 bits
abbrev pub low : ℕ → ℕ
low w = w % 0x10000000

-- "offset in bits 27–16, count in bits 15–0"
abbrev pub offset : ℕ → ℕ
offset w = w / 0x10000 % 0x1000

abbrev pub count : ℕ → ℕ
count w = w % 0x10000

-- a word of each kind
abbrev pub page_word : ℕ → ℕ
page_word page = 0x10000000 + page

abbrev pub run_word : ℕ → ℕ → ℕ
run_word offset count = 0x20000000 + (offset * 0x10000 + count)

abbrev pub end_word : ℕ → ℕ
end_word index = 0xF0000000 + index

-- "At most 512 words in all."
abbrev pub most_words : ℕ
most_words = 512
