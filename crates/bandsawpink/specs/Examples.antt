-- Worked examples of what crosses to C, computed from the definitions: the 139 words of a directory, and an answer.
-- Assumes nothing: these are definitions.
use Rattle.std.specs.Prelude.{ℕ, List, [], ◌∷◌, ◌++◌, replicate}
use Rattle.laws.specs.Examples.{Example, computed}
use Rattle.answer.specs.Outcome.{given, refused_at}
use Rattle.directory.specs.declared.Directory.{Directory}
use Rattle.directory.specs.declared.Status.TheVariants.{Awaiting}
use Rattle.directory.specs.Directory.{formatted_directory, marked_dead, with_status, table_from}
use Rattle.bandsawpink.specs.Words.{directory_in, words_of}
use Rattle.bandsawpink.specs.Answers.{exported_answer, directory_after}

-- three cards and four pages: newly formatted, and after the failure of card 1
abbrev pub formatted : Directory
formatted = formatted_directory 3 4

abbrev pub failed : Directory
failed = with_status (marked_dead formatted 1) (Awaiting 1)

-- the homes of four pages, and 60 words that are 0, for each kind of home
abbrev pub homes : List ℕ
homes = 0 ∷ 1 ∷ 2 ∷ 0 ∷ replicate 60 0 ++ 1 ∷ 2 ∷ 0 ∷ 1 ∷ replicate 60 0

abbrev pub examples : List Example
examples =
    -- cards, pages, the awaited card (4294967295 for none), eight marks, 64 primaries, 64 secondaries
    computed (words_of formatted) (3 ∷ 4 ∷ 4294967295 ∷ 1 ∷ 1 ∷ 1 ∷ replicate 5 0 ++ homes)
    ∷ computed (words_of failed) (3 ∷ 4 ∷ 1 ∷ 1 ∷ 0 ∷ 1 ∷ replicate 5 0 ++ homes)
    -- any words are a directory: each stands where it stood, and a mark is any word but 0
    ∷ computed (words_of (directory_in (table_from (λ word. word) 0 139)))
    (0 ∷ 1 ∷ 2 ∷ replicate 8 1 ++ table_from (λ word. word) 11 128)
    ∷ computed (words_of (directory_in (5 ∷ 6 ∷ 4294967295 ∷ 0 ∷ 2 ∷ replicate 6 0 ++ replicate 128 9)))
    (5 ∷ 6 ∷ 4294967295 ∷ 0 ∷ 1 ∷ replicate 6 0 ++ replicate 128 9)
    -- a refusal keeps the words, whatever they are; an accepted call writes those of its directory
    ∷ computed
    (directory_after (replicate 139 2)
    (record { outcome = refused_at 5 9; directory = formatted; memory = []; words = [] }))
    (replicate 139 2)
    ∷ computed
    (directory_after (replicate 139 2) (record { outcome = given 0; directory = failed; memory = []; words = [] }))
    (3 ∷ 4 ∷ 1 ∷ 1 ∷ 0 ∷ 1 ∷ replicate 5 0 ++ homes)
    -- an answer is the number and the place, or 0 and the value
    ∷ computed
    ((exported_answer (refused_at 5 9)).number ∷ (exported_answer (refused_at 5 9)).value
    ∷ (exported_answer (given 7)).number ∷ (exported_answer (given 7)).value ∷ [])
    (5 ∷ 9 ∷ 0 ∷ 7 ∷ [])
    ∷ []
