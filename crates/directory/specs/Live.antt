-- The next live card (document 01, "Cards, pages, memory"). Marks: for each card whether it is live.
-- Assumes nothing: these are definitions.
use Rattle.std.specs.Prelude.{ℕ, ◌+◌, ◌-◌, List, Bool, false, cond, get_or, ltb, Option, None, Some}
use Rattle.laws.specs.Search.{lowest_from}

-- whether card c is live; no card past the marks is
abbrev pub live_at : List Bool → ℕ → Bool
live_at marks c = get_or marks c false

-- the first live card at or above `from` and below `cards`; `cards` if there is none
abbrev pub first_live : List Bool → ℕ → ℕ → ℕ
first_live marks from cards = lowest_from (live_at marks) from (cards - from)

-- that card, if there is one
abbrev pub found_live : List Bool → ℕ → ℕ → Option ℕ
found_live marks from cards =
    cond (ltb (first_live marks from cards) cards) (Some (first_live marks from cards)) None

-- "The next live card after c is the first live one going up from c + 1, round the end": the end is the number
-- of cards, marks past it are never read. A card that alone is live follows itself; none live: the number of cards.
unfoldable pub next_live : List Bool → ℕ → ℕ → ℕ
next_live marks cards c =
    cond (ltb (first_live marks (c + 1) cards) cards) (first_live marks (c + 1) cards) (first_live marks 0 cards)
