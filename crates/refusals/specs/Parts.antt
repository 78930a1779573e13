-- Inner contracts only. The last checks of an opening (document 01, refusals 4 to 8) in the two parts that the code
-- makes of them.
-- Assumes nothing: these are definitions.
use Rattle.std.specs.Prelude.{ℕ, ◌+◌, List, [], ◌∷◌, ltb, leb}
use Rattle.laws.specs.Search.{lowest, any_below}
use Rattle.answer.specs.Outcome.{release_open, number_used, number_ahead, faulty_list, word_in_use}
use Rattle.directory.specs.declared.Header.{Header}
use Rattle.area.specs.Prelude.{area_size, own_release, has_open_release}
use Rattle.diff.specs.Reading.{check_diff}
use Rattle.protocol.specs.Checks.{Check, check, check_at}
use Rattle.protocol.specs.Opening.{shares_with}

-- 7 and 8
abbrev pub list_checks : Header → List ℕ → ℕ → List ℕ → List Check
list_checks h m c list =
    check_at (ltb 0 (check_diff h.pages list).number) faulty_list (check_diff h.pages list).value
    ∷ check_at (any_below (shares_with h.live h.pages m c list) h.cards) word_in_use
    (lowest (shares_with h.live h.pages m c list) h.cards)
    ∷ []

-- 4 to 8
abbrev pub number_checks : Header → List ℕ → ℕ → ℕ → List ℕ → List Check
number_checks h m c number list =
    check (has_open_release h.live (area_size h.pages) m c) release_open
    ∷ check_at (leb number (own_release (area_size h.pages) m c).number) number_used
    (own_release (area_size h.pages) m c).number
    ∷ check (ltb ((own_release (area_size h.pages) m c).number + 1) number) number_ahead
    ∷ list_checks h m c list
