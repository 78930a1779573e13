-- Inner contracts only. A walk over the words of a list: the state of the reading, and the index of the word that comes
-- next.
-- Assumes nothing: these are definitions.
use Rattle.std.specs.Prelude.{ℕ, ◌+◌, ◌*◌, ◌≤◌, List, [], ◌∷◌, cond, length, drop, get_or, ltb}
use Rattle.diff.specs.declared.Cursor.{Cursor}
use Rattle.diff.specs.declared.Price.{Price}
use Rattle.diff.specs.declared.Step.{Step}
use Rattle.diff.specs.declared.Step.TheVariants.{Next, End, Fault}
use Rattle.diff.specs.Prices.{priced_word, prices_from}
use Rattle.diff.specs.Reading.{start, word_step}
use Rattle.reader.specs.Runs.{past_prices}
pub use Rattle.reader.specs.declared.walk.Walk.{Walk}

abbrev pub at_first : Walk
at_first = record { cursor = start; index = 0 }

-- after a word, by what it does; at the end of the list if reading stops there
abbrev pub after_word : ℕ → Walk → Step → Walk
after_word words at (Next t) = record { cursor = t; index = at.index + 1 }
after_word words at End = record { cursor = at.cursor; index = words }
after_word words at Fault = record { cursor = at.cursor; index = words }

unfoldable pub past_word : ℕ → List ℕ → Walk → Walk
past_word pages list at =
    after_word (length list) at (word_step pages at.cursor at.index (get_or list at.index 0))

-- past the prices that are due, and the next word; at the end of the list if it stops among them
unfoldable pub past_run : ℕ → List ℕ → Walk → Walk
past_run pages list at =
    let s : Cursor = at.cursor in
    let index : ℕ = at.index + s.due in
    cond (ltb index (length list)) (past_word pages list (record { cursor = past_prices s s.due; index = index }))
    (record { cursor = s; index = length list })

-- the price that a word is, if one is due
abbrev pub price_due : Cursor → ℕ → List Price
price_due s w = cond (ltb 0 s.due) (priced_word s w ∷ []) []

-- where a walk over a list of so many words can stand
abbrev pub Reached : ℕ → ℕ → Walk → Type 0
Reached pages words at =
    (at.cursor.word + at.cursor.due ≤ 32) × (at.cursor.gap ≤ 1) × (at.cursor.prices ≤ at.index)
    × (at.cursor.due ≤ 32 * at.cursor.next) × (at.cursor.next ≤ pages) × (at.index ≤ words)
    × (at.cursor.due ≤ 32 * at.cursor.gap)

-- the prices of the words that are left
unfoldable pub prices_left : ℕ → List ℕ → Walk → List Price
prices_left pages list at = prices_from pages (drop at.index list) at.index at.cursor
