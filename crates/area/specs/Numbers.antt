-- Release numbers, stamps and done marks in a card's area: "64 bits, low word first" (document 02, request 5).
-- Assumes nothing: these are definitions.
use Rattle.std.specs.Prelude.{ℕ, ◌+◌, ◌*◌, ◌%◌, ◌/◌, List, [], ◌∷◌}
use Rattle.memory.specs.Words.{load, store_run}

-- how many values a word of 32 bits has
abbrev pub word_values : ℕ
word_values = 4294967296

-- the words that a number is stored as, from the first on
unfoldable pub number_words : ℕ → List ℕ
number_words number = number % word_values ∷ number / word_values ∷ []

-- the number that stands at an offset, where `word o` is the word at offset o
unfoldable pub number_at : (ℕ → ℕ) → ℕ → ℕ
number_at word offset = word offset + word_values * word (offset + 1)

abbrev pub load_number : ℕ → List ℕ → ℕ → ℕ → ℕ
load_number size m card offset = number_at (load size m card) offset

abbrev pub store_number : ℕ → List ℕ → ℕ → ℕ → ℕ → List ℕ
store_number size m card offset number = store_run size m card offset (number_words number)
