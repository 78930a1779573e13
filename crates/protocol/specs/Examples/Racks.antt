-- The racks of the examples.
-- Assumes nothing: these are definitions.
use Rattle.std.specs.Prelude.{ℕ, ◌+◌, ◌*◌, List, ◌++◌, take, drop}
use Rattle.answer.specs.Outcome.{in_words}
use Rattle.directory.specs.declared.Directory.{Directory}
use Rattle.directory.specs.Directory.{is_live, formatted_directory, table}
use Rattle.directory.specs.Examples.{status_words}
use Rattle.area.specs.Prelude.{zeros}
use Rattle.area.specs.Examples.{bit}
use Rattle.protocol.specs.Result.{Result}

-- Three live cards and one page, on cards 0 and 1. An area has 758 words.
abbrev pub small_rack : Directory
small_rack = formatted_directory 3 1

unfoldable pub small_memory : List ℕ
small_memory = zeros 2274

-- n words of a card's area, from an offset on
abbrev pub words_at : ℕ → List ℕ → ℕ → ℕ → ℕ → List ℕ
words_at size m card offset n = take n (drop (card * size + offset) m)

-- ---- results as words

-- number and value
abbrev pub outcome_of : Result → List ℕ
outcome_of r = in_words r.outcome

-- marks, primaries, secondaries and status, as far as cards and pages go
abbrev pub directory_words : Directory → List ℕ
directory_words d =
    table (λ card. bit (is_live d card)) d.cards
    ++ take d.pages d.primary ++ take d.pages d.secondary ++ status_words d.status
