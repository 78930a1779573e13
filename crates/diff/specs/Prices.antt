-- The prices of a diff, and what they do to the pages (document 01, "The list of changes").
-- Assumes nothing: these are definitions.
use Rattle.std.specs.Prelude.{ℕ, ◌+◌, ◌-◌, ◌*◌, List, [], ◌∷◌, ◌++◌, Bool, true, false, cond, set, ltb, eqb}
use Rattle.diff.specs.Reading.{Cursor, Step, start, word_step}
use Rattle.diff.specs.declared.Step.TheVariants.{Next, End, Fault}
pub use Rattle.diff.specs.declared.Price.{Price}

-- "Label number = 32 × page + word"
abbrev pub label_of : Price → ℕ
label_of p = 32 * p.page + p.word

-- the price that the word w is, where one is due
abbrev pub priced_word : Cursor → ℕ → Price
priced_word s w = record { page = s.next - 1; word = s.word; price = w }

abbrev pub prices_after : (Cursor → List Price) → Step → List Price
prices_after rest (Next t) = rest t
prices_after rest End = []
prices_after rest Fault = []

-- the prices of the words from an index on, up to the end word or a fault
unfoldable pub prices_from : ℕ → List ℕ → ℕ → Cursor → List Price
prices_from pages [] index s = []
prices_from pages (w ∷ ws) index s =
    cond (ltb 0 s.due) (priced_word s w ∷ []) []
    ++ prices_after (prices_from pages ws (index + 1)) (word_step pages s index w)

-- the prices of a diff, in order
unfoldable pub prices_of : ℕ → List ℕ → List Price
prices_of pages ws = prices_from pages ws 0 start

-- whether a list of prices names a label
unfoldable pub names : List Price → ℕ → Bool
names [] label = false
names (p ∷ ps) label = cond (eqb (label_of p) label) true (names ps label)

-- a label's price after prices are applied in order
unfoldable pub applied_at : List Price → ℕ → ℕ → ℕ
applied_at [] label price = price
applied_at (p ∷ ps) label price = applied_at ps label (cond (eqb (label_of p) label) p.price price)

-- pages, one after the other, with prices applied to them in order
unfoldable pub apply_prices : List Price → List ℕ → List ℕ
apply_prices [] pages = pages
apply_prices (p ∷ ps) pages = apply_prices ps (set pages (label_of p) p.price)
