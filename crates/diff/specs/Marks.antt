-- Marks of the words that a desk has set (document 02, request 2): "one word of marks per page, bit w for word w"; and
-- for a desk that keeps none, the marks of the words that differ from their twins.
-- Assumes nothing: these are definitions.
use Rattle.std.specs.Prelude.{ℕ, zero, suc, ◌+◌, ◌*◌, ◌/◌, ◌%◌, ◌^◌, List, [], ◌∷◌, Bool, cond, length, get_or, take}
use Rattle.std.specs.Prelude.{drop, eqb}

-- bit w of a word, 0 or 1
abbrev pub bit : ℕ → ℕ → ℕ
bit word w = word / 2 ^ w % 2

-- whether a word of marks has word w marked
abbrev pub is_set : ℕ → ℕ → Bool
is_set word w = eqb (bit word w) 1

-- whether the marks of the pages, one word each, mark a label
abbrev pub is_marked : List ℕ → ℕ → Bool
is_marked marks label = is_set (get_or marks (label / 32) 0) (label % 32)

-- ---- what differs

-- a word of marks: bit w where word w differs from its twin
unfoldable pub changed_words : List ℕ → List ℕ → ℕ
changed_words [] twins = 0
changed_words (w ∷ ws) [] = 0
changed_words (w ∷ ws) (t ∷ ts) = cond (eqb w t) 0 1 + 2 * changed_words ws ts

-- those of so many pages
unfoldable pub changes_of : ℕ → List ℕ → List ℕ → List ℕ
changes_of zero working twins = []
changes_of (suc pages) working twins =
    changed_words (take 32 working) (take 32 twins) ∷ changes_of pages (drop 32 working) (drop 32 twins)

-- those of all whole pages
abbrev pub change_marks : List ℕ → List ℕ → List ℕ
change_marks working twins = changes_of (length working / 32) working twins
