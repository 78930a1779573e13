-- The directory as 139 words, which is how it crosses to C: cards, pages, the awaited card, marks, homes.
-- Assumes nothing: these are definitions.
use Rattle.std.specs.Prelude.{ℕ, ◌+◌, List, ◌∷◌, ◌++◌, Bool, cond, ltb, eqb, get_or, take, drop}
use Rattle.directory.specs.declared.Directory.{Directory}
use Rattle.directory.specs.declared.Status.{Status}
use Rattle.directory.specs.declared.Status.TheVariants.{Running, Awaiting}
use Rattle.directory.specs.Directory.{directory_of, table, is_live}

-- the awaited card of a rack that awaits none
abbrev pub running_word : ℕ
running_word = 4294967295

-- ---- the directory that words say

abbrev pub status_in : ℕ → Status
status_in awaited = cond (eqb awaited running_word) Running (Awaiting awaited)

-- a mark is any word but 0
abbrev pub marks_in : List ℕ → List Bool
marks_in words = table (λ card. ltb 0 (get_or words (3 + card) 0)) 8

unfoldable pub directory_in : List ℕ → Directory
directory_in words =
    directory_of (get_or words 0 0) (get_or words 1 0) (marks_in words) (take 64 (drop 11 words)) (take 64 (drop 75 words))
    (status_in (get_or words 2 0))

-- ---- the words that say a directory

abbrev pub awaited_word : Status → ℕ
awaited_word Running = running_word
awaited_word (Awaiting card) = card

-- the words before the homes
abbrev pub head_of : Directory → List ℕ
head_of d = d.cards ∷ d.pages ∷ awaited_word d.status ∷ table (λ card. cond (is_live d card) 1 0) 8

unfoldable pub words_of : Directory → List ℕ
words_of d = head_of d ++ (d.primary ++ d.secondary)
