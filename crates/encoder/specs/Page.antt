-- Inner contracts only. What one page brings to a diff, by the word of its marks, and the first run of marked words.
-- Assumes nothing: these are definitions.
use Rattle.std.specs.Prelude.{ℕ, ◌+◌, ◌*◌, ◌%◌, ◌<◌, ◌≤◌, ◌≡◌, List, Bool, get_or, drop}
use Rattle.diff.specs.Encoding.{listed, encode_from}
use Rattle.diff.specs.Marks.{bit, is_set}
pub use Rattle.encoder.specs.declared.page.Run.{Run}

-- whether a page's word of marks marks a label of the page, and its price, by the page's 32 prices
abbrev pub marked_by : ℕ → ℕ → Bool
marked_by marks label = is_set marks (label % 32)

abbrev pub priced_by : List ℕ → ℕ → ℕ
priced_by prices label = get_or prices (label % 32) 0

-- the words of a page, by its marks and its 32 prices: none if no word is marked, else its page word and its runs
unfoldable pub page_words : ℕ → ℕ → List ℕ → List ℕ
page_words page marks prices =
    encode_from 0 (listed (marked_by marks) (priced_by prices) (32 * page) 32)

-- those of its runs alone
abbrev pub run_words : ℕ → ℕ → List ℕ → List ℕ
run_words page marks prices = drop 1 (page_words page marks prices)

-- the first run of marked words: no word before it is marked, each of its words is, the one behind it is not
pub record FirstRun (marks : ℕ) (run : Run) : Type 0 where
  pub within : run.offset + run.count ≤ 32
  pub some : 0 < run.count
  pub none_before : (w : ℕ) → w < run.offset → bit marks w ≡ 0
  pub all_marked : (w : ℕ) → w < run.count → bit marks (run.offset + w) ≡ 1
  pub none_behind : run.offset + run.count < 32 → bit marks (run.offset + run.count) ≡ 0
