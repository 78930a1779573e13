-- What merging two diffs makes, and what it answers (document 02, request 9, "Two lists made one").
use Rattle.std.specs.Prelude.{ℕ, ◌*◌, ◌<◌, ◌≤◌, ◌≡◌, ◌≢◌, List, [], ◌∷◌, ◌++◌, ◌||◌, length, drop}
use Rattle.answer.specs.Outcome.{given, refused}
use Rattle.diff.specs.Format.{end_word}
use Rattle.diff.specs.Reading.{check_diff}
use Rattle.diff.specs.Prices.{prices_of, names, apply_prices}
use Rattle.diff.specs.OnlyDiff.{Allowed}
use Rattle.diff.specs.Merging.{merge_pages, merged_diff, merge_diffs, merged_buffer}

-- pages, one after the other, with the prices of a diff
abbrev pub effect : ℕ → List ℕ → List ℕ → List ℕ
effect pages diff words = apply_prices (prices_of pages diff) words

-- on the pages of a rack, whatever they show, a diff does what the first and then the second do
abbrev pub DoesBoth : ℕ → List ℕ → List ℕ → List ℕ → Type 0
DoesBoth pages first second diff =
    (words : List ℕ) → length words ≡ 32 * pages
    → effect pages diff words ≡ effect pages second (effect pages first words)

-- merging the two is accepted, with room enough
abbrev pub Merges : List ℕ → List ℕ → Type 0
Merges first second = (room : ℕ) × ((merge_diffs first second room).number ≡ 0)

-- ---- the merged diff

-- On a rack of so many pages.
pub record MergedOfTwo (pages : ℕ) (first second : List ℕ) : Type 0 where
  -- "It is an allowed list again."
  pub allowed : Allowed pages (merged_diff first second)
  -- "whose effect on any pages is the first's and then the second's": on any words, however many
  pub does_both :
      (words : List ℕ)
      → effect pages (merged_diff first second) words ≡ effect pages second (effect pages first words)
  -- a word that both set to one price is named too
  pub names_either :
      (label : ℕ) → names (prices_of pages (merged_diff first second)) label
      ≡ (names (prices_of pages first) label || names (prices_of pages second) label)
  -- "gives one list": no other allowed list has this effect
  pub only :
      (diff : List ℕ) → Allowed pages diff → DoesBoth pages first second diff → diff ≡ merged_diff first second

-- Whenever merging two diffs is accepted. Both are allowed then on a rack of 64 pages; on a smaller rack that allows both,
-- the merged diff is allowed and has both effects, too.
abbrev pub MergedIsBoth : Type 0
MergedIsBoth =
    (first second : List ℕ) → Merges first second
    → Allowed merge_pages first × Allowed merge_pages second
    × ((pages : ℕ) → pages ≤ merge_pages → Allowed pages first → Allowed pages second → MergedOfTwo pages first second)

-- ---- what is answered, and what stands in the buffer

-- the answer is the length of a diff, which stands in the buffer; the words past it are kept
abbrev pub Gives : List ℕ → List ℕ → List ℕ → List ℕ → Type 0
Gives first second buffer diff =
    (merge_diffs first second (length buffer) ≡ given (length diff))
    × (merged_buffer first second buffer ≡ diff ++ drop (length diff) buffer)

pub record MergeAnswers (first second buffer : List ℕ) : Type 0 where
  -- "A faulty input gets 7, the first list looked at first": the answer is that of a list handed in
  pub faulty_first :
      (check_diff merge_pages first).number ≢ 0
      → merge_diffs first second (length buffer) ≡ check_diff merge_pages first
  pub faulty_second :
      Allowed merge_pages first → (check_diff merge_pages second).number ≢ 0
      → merge_diffs first second (length buffer) ≡ check_diff merge_pages second
  -- "a result over 512 words 19", whatever the buffer: no allowed list does what both do
  pub too_long :
      Allowed merge_pages first → Allowed merge_pages second
      → ((diff : List ℕ) → Allowed merge_pages diff → DoesBoth merge_pages first second diff → ⊥)
      → merge_diffs first second (length buffer) ≡ refused 19
  -- "then a short buffer 17"
  pub too_short :
      Allowed merge_pages first → Allowed merge_pages second
      → (diff : List ℕ) → Allowed merge_pages diff → DoesBoth merge_pages first second diff
      → length buffer < length diff → merge_diffs first second (length buffer) ≡ refused 17
  -- else it gives that list
  pub merged :
      Allowed merge_pages first → Allowed merge_pages second
      → (diff : List ℕ) → Allowed merge_pages diff → DoesBoth merge_pages first second diff
      → length diff ≤ length buffer → Gives first second buffer diff

abbrev pub AnswersMerges : Type 0
AnswersMerges = (first second buffer : List ℕ) → MergeAnswers first second buffer

-- ---- three diffs, and the one that changes nothing

-- "Joining three gives one list for either bracketing where all the joins are accepted." The inner ones are enough: then
-- the outer ones answer the same.
abbrev pub MergesEitherWay : Type 0
MergesEitherWay =
    (a b c : List ℕ) → Merges a b → Merges b c
    → (merged_diff (merged_diff a b) c ≡ merged_diff a (merged_diff b c))
    × ((room : ℕ) → merge_diffs (merged_diff a b) c room ≡ merge_diffs a (merged_diff b c) room)

-- "the list of an end word alone"
abbrev pub empty_diff : List ℕ
empty_diff = end_word 0 ∷ []

-- It "changes nothing on either side."
abbrev pub EmptyChangesNothing : Type 0
EmptyChangesNothing =
    (diff buffer : List ℕ) → Allowed merge_pages diff → length diff ≤ length buffer
    → Gives empty_diff diff buffer diff × Gives diff empty_diff buffer diff
