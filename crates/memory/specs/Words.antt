-- The lent memory: "one area per card, ascending" (document 01, "Cards, pages, memory"). A word is named by the size
-- of an area, its card and its offset in the card's area; a run of words by its first.
-- Assumes nothing: these are definitions.
use Rattle.std.specs.Prelude.{ℕ, zero, suc, ◌+◌, ◌*◌, ◌≤◌, List, [], ◌∷◌, get_or, set, take, drop, replicate}

abbrev pub index_of : ℕ → ℕ → ℕ → ℕ
index_of size card offset = card * size + offset

-- the area of a card lies in a memory of so many words
abbrev pub AreaIn : ℕ → ℕ → ℕ → Type 0
AreaIn words size card = card * size + size ≤ words

-- ---- one word

unfoldable pub load : ℕ → List ℕ → ℕ → ℕ → ℕ
load size m card offset = get_or m (index_of size card offset) 0

unfoldable pub store : ℕ → List ℕ → ℕ → ℕ → ℕ → List ℕ
store size m card offset v = set m (index_of size card offset) v

-- ---- a run of words

unfoldable pub load_run : ℕ → List ℕ → ℕ → ℕ → ℕ → List ℕ
load_run size m card offset n = take n (drop (index_of size card offset) m)

-- words written over others from an index on; nothing is written past the end
unfoldable pub overwrite : List ℕ → ℕ → List ℕ → List ℕ
overwrite [] i vs = []
overwrite (w ∷ ws) i [] = w ∷ ws
overwrite (w ∷ ws) zero (v ∷ vs) = v ∷ overwrite ws zero vs
overwrite (w ∷ ws) (suc i) (v ∷ vs) = w ∷ overwrite ws i (v ∷ vs)

unfoldable pub store_run : ℕ → List ℕ → ℕ → ℕ → List ℕ → List ℕ
store_run size m card offset vs = overwrite m (index_of size card offset) vs

-- n words that are 0
unfoldable pub zeros : ℕ → List ℕ
zeros n = replicate n 0

unfoldable pub clear_run : ℕ → List ℕ → ℕ → ℕ → ℕ → List ℕ
clear_run size m card offset n = store_run size m card offset (zeros n)

-- n words of one card copied to another, or to another place of the same card
unfoldable pub copy_run : ℕ → List ℕ → ℕ → ℕ → ℕ → ℕ → ℕ → List ℕ
copy_run size m from offset to offset' n = store_run size m to offset' (load_run size m from offset n)
