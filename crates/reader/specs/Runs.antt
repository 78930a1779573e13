-- Inner contracts only. Several prices of a run passed at once.
-- Assumes nothing: these are definitions.
use Rattle.std.specs.Prelude.{ℕ, ◌+◌, ◌-◌, List, cond, length, get_or, ltb, Option, Some, None}
use Rattle.diff.specs.declared.Cursor.{Cursor}
use Rattle.diff.specs.declared.Price.{Price}
use Rattle.diff.specs.Prices.{priced_word}

-- past n of the prices that are due
abbrev pub past_prices : Cursor → ℕ → Cursor
past_prices s n =
    record { next = s.next; word = s.word + n; gap = s.gap; due = s.due - n; prices = s.prices + n }

-- the price numbered n of those that are due from an index on, unless the list stops before it
abbrev pub nth_due : List ℕ → ℕ → Cursor → ℕ → Option Price
nth_due list index s n =
    cond (ltb (index + n) (length list)) (Some (priced_word (past_prices s n) (get_or list (index + n) 0))) None
