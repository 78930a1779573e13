-- Inner contracts only. What a diff has on one page, and a page to which it is applied.
-- Assumes nothing: these are definitions.
use Rattle.std.specs.Prelude.{ℕ, ◌+◌, ◌^◌, ◌<◌, ◌≡◌, ◌≢◌, List, ◌∷◌, ◌++◌, Bool, cond, ◌&&◌, ◌||◌, length, get_or, drop}
use Rattle.std.specs.Prelude.{ltb, leb, min, Option, Some, None}
use Rattle.diff.specs.Format.{kind, low, page_word, end_word}
use Rattle.diff.specs.Marks.{is_set}
use Rattle.encoder.specs.Page.{page_words}

-- whether a word is one of so many from the first on
abbrev pub in_range : ℕ → ℕ → ℕ → Bool
in_range first count word = leb first word && ltb word (first + count)

-- From an index on, a list has the words of a page, by its marks and its 32 prices: none, if no word is marked. The word
-- behind them is no run, nor the page word of this page.
pub record PageAt (list : List ℕ) (index page marks : ℕ) (prices : List ℕ) : Type 0 where
  pub small : marks < 2 ^ 32
  pub size : length prices ≡ 32
  pub behind : ℕ
  pub rest : List ℕ
  pub words : drop index list ≡ page_words page marks prices ++ behind ∷ rest
  pub no_run : kind behind ≢ 2
  pub is_no_page : behind ≢ page_word page

-- the marks and prices of a page before and after what a diff has on it, by its own marks and prices, is applied
pub record PageApplied (own : ℕ) (prices : List ℕ) (marks : ℕ) (shown : List ℕ) (marks' : ℕ) (shown' : List ℕ) : Type 0
  where
    pub marked : (w : ℕ) → is_set marks' w ≡ (is_set marks w || is_set own w)
    pub priced : (w : ℕ) → w < 32 → get_or shown' w 0 ≡ cond (is_set own w) (get_or prices w 0) (get_or shown w 0)

-- the page of the lower of two words, each a page word or an end word, if it is a page word
abbrev pub next_page : ℕ → ℕ → Option ℕ
next_page first second = cond (ltb (min first second) (end_word 0)) (Some (low (min first second))) None
