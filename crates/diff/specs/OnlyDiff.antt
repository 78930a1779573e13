-- For each set of labels and their prices one allowed diff: the law under the list maker, and under whatever else makes
-- a diff of prices.
use Rattle.std.specs.Prelude.{ℕ, ◌*◌, ◌<◌, ◌≤◌, ◌≡◌, List, Bool, true, length}
use Rattle.diff.specs.Format.{most_words}
use Rattle.diff.specs.Reading.{check_diff}
use Rattle.diff.specs.Prices.{prices_of, names, applied_at}
use Rattle.diff.specs.Encoding.{listed_diff}

-- a list that document 01 allows on a rack of so many pages: handed in, it is not refused
abbrev pub Allowed : ℕ → List ℕ → Type 0
Allowed pages diff = (check_diff pages diff).number ≡ 0

-- the diff names the label
abbrev pub Names : ℕ → List ℕ → ℕ → Type 0
Names pages diff label = names (prices_of pages diff) label ≡ true

-- a diff's own price of a label, 0 if it does not name it
abbrev pub price_in : ℕ → List ℕ → ℕ → ℕ
price_in pages diff label = applied_at (prices_of pages diff) label 0

-- the diff names exactly the labels that a test names, each at its price
pub record DiffOf (pages : ℕ) (named : ℕ → Bool) (price : ℕ → ℕ) (diff : List ℕ) : Type 0 where
  pub names_these : (label : ℕ) → label < 32 * pages → names (prices_of pages diff) label ≡ named label
  pub at_price : (label : ℕ) → Names pages diff label → price_in pages diff label ≡ price label

-- the listed diff of the labels of so many pages: where it has no more than 512 words, it is such a diff and allowed; and
-- no other allowed diff is
pub record OneDiff (pages : ℕ) (named : ℕ → Bool) (price : ℕ → ℕ) : Type 0 where
  pub allowed :
      length (listed_diff named price (32 * pages)) ≤ most_words → Allowed pages (listed_diff named price (32 * pages))
  pub is_diff_of :
      length (listed_diff named price (32 * pages)) ≤ most_words
      → DiffOf pages named price (listed_diff named price (32 * pages))
  pub only :
      (diff : List ℕ) → Allowed pages diff → DiffOf pages named price diff
      → diff ≡ listed_diff named price (32 * pages)

abbrev pub OneDiffForPrices : Type 0
OneDiffForPrices = (pages : ℕ) (named : ℕ → Bool) (price : ℕ → ℕ) → pages ≤ 64 → OneDiff pages named price
