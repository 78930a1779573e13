-- Worked examples of the directory, computed from the definitions: the next live card, the directories that
-- formatting gives, and the new homes of pages.
-- Assumes nothing: these are definitions.
use Rattle.std.specs.Prelude.{ℕ, List, [], ◌∷◌, ◌++◌, Bool, true, false, cond, replicate}
use Rattle.laws.specs.Examples.{Example, computed}
use Rattle.directory.specs.Live.{next_live}
use Rattle.directory.specs.Directory.{Directory, Status, formatted_directory, empty_directory, marked_dead}
use Rattle.directory.specs.Directory.{marked_live, with_homes, with_status, backup_of}
use Rattle.directory.specs.NewHome.{pages_at, even_home, next_home}
use Rattle.directory.specs.declared.Status.TheVariants.{Running, Awaiting}

-- marks of six cards: cards 1, 2 and 4 are live, and so is 5
abbrev pub marks : List Bool
marks = false ∷ true ∷ true ∷ false ∷ true ∷ true ∷ []

abbrev pub bits : List Bool → List ℕ
bits [] = []
bits (b ∷ bs) = cond b 1 0 ∷ bits bs

-- 0 for a running rack, else 1 and the awaited card
abbrev pub status_words : Status → List ℕ
status_words Running = 0 ∷ []
status_words (Awaiting card) = 1 ∷ card ∷ []

-- every word of a directory
abbrev pub words_of : Directory → List ℕ
words_of d = d.cards ∷ d.pages ∷ status_words d.status ++ bits d.live ++ d.primary ++ d.secondary

-- five cards and eight pages, with card 1 marked dead
abbrev pub dead_card : Directory
dead_card = marked_dead (formatted_directory 5 8) 1

-- the pages of card 1, which are 0, 1, 5 and 6, moved in turn
abbrev pub moved0 : Directory
moved0 = with_homes dead_card 0 0 4

abbrev pub moved1 : Directory
moved1 = with_homes moved0 1 2 0

abbrev pub moved5 : Directory
moved5 = with_homes moved1 5 0 3

abbrev pub moved6 : Directory
moved6 = with_homes moved5 6 2 4

-- the number of pages of each of five cards
abbrev pub five_counts : Directory → List ℕ
five_counts d = pages_at d 0 ∷ pages_at d 1 ∷ pages_at d 2 ∷ pages_at d 3 ∷ pages_at d 4 ∷ []

abbrev pub examples : List Example
examples =
    -- of five cards: up from the next one, round the end of five, though mark 5 is set
    computed
    (next_live marks 5 0 ∷ next_live marks 5 1 ∷ next_live marks 5 2 ∷ next_live marks 5 3 ∷ next_live marks 5 4 ∷ [])
    (1 ∷ 2 ∷ 4 ∷ 4 ∷ 1 ∷ [])
    -- a card that alone is live follows itself; where none is, the number of cards
    ∷ computed (next_live marks 2 1 ∷ next_live marks 1 0 ∷ []) (1 ∷ 1 ∷ [])
    -- Three cards and four pages: page p is on card p mod 3 and the next. Marks past the cards are dead, homes past
    -- the pages 0.
    ∷ computed (words_of (formatted_directory 3 4))
    (3 ∷ 4 ∷ 0 ∷ 1 ∷ 1 ∷ 1 ∷ replicate 5 0 ++ 0 ∷ 1 ∷ 2 ∷ 0 ∷ replicate 60 0 ++ 1 ∷ 2 ∷ 0 ∷ 1 ∷ replicate 60 0)
    -- the directory of a refused formatting
    ∷ computed (words_of empty_directory) (0 ∷ 0 ∷ 0 ∷ replicate 136 0)
    -- a card marked dead, one marked live, a page moved and a recovery awaited: each changes that and nothing else
    ∷ computed
    (words_of (with_status (with_homes (marked_live (marked_dead (formatted_directory 3 4) 1) 7) 2 5 6) (Awaiting 1)))
    (3 ∷ 4 ∷ 1 ∷ 1 ∷ 1 ∷ 0 ∷ 1 ∷ 0 ∷ 0 ∷ 0 ∷ 0 ∷ 1 ∷ 0 ∷ 1 ∷ 5 ∷ 0 ∷ replicate 60 0 ++ 1 ∷ 2 ∷ 6 ∷ 1 ∷ replicate 60 0)
    -- a backup is the next live card
    ∷ computed (backup_of (marked_dead (formatted_directory 3 4) 1) 0 ∷ backup_of (formatted_directory 3 4) 0 ∷ [])
    (2 ∷ 1 ∷ [])
    -- the number of pages that each card is home to, as primary or as secondary
    ∷ computed (five_counts dead_card) (3 ∷ 4 ∷ 4 ∷ 3 ∷ 2 ∷ [])
    -- Card 4 has the fewest; of primaries alone, cards 3 and 4 have one each. A page that keeps card 4 gets the lower
    -- of cards 0 and 3, which have three pages each.
    ∷ computed (even_home dead_card 0 ∷ even_home dead_card 2 ∷ even_home dead_card 3 ∷ even_home dead_card 4 ∷ [])
    (4 ∷ 4 ∷ 4 ∷ 0 ∷ [])
    -- document 01: the next live card after the kept home
    ∷ computed (next_home dead_card 0 ∷ next_home dead_card 2 ∷ next_home dead_card 3 ∷ next_home dead_card 4 ∷ [])
    (2 ∷ 3 ∷ 4 ∷ 0 ∷ [])
    -- The pages of card 1 in rising order, each choice counted in the next. They keep cards 0, 2, 0 and 2.
    ∷ computed (even_home dead_card 0 ∷ even_home moved0 2 ∷ even_home moved1 0 ∷ even_home moved5 2 ∷ [])
    (4 ∷ 0 ∷ 3 ∷ 4 ∷ [])
    -- Then each live card has four pages. The dead card, which has none, gets none.
    ∷ computed (five_counts moved6) (4 ∷ 0 ∷ 4 ∷ 4 ∷ 4 ∷ [])
    ∷ computed (even_home moved6 0 ∷ even_home moved6 2 ∷ []) (2 ∷ 0 ∷ [])
    -- where no other card is live, the number of cards
    ∷ computed (even_home (marked_dead (marked_dead (formatted_directory 3 4) 0) 1) 2 ∷ []) (3 ∷ [])
    ∷ []
