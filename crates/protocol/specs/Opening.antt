-- Opening a release (document 01, "A release and its 4k + 11 steps"; refusals 1, 2, 11, 3 to 8).
-- Assumes nothing: these are definitions.
use Rattle.std.specs.Prelude.{ℕ, ◌+◌, List, [], ◌∷◌, ◌++◌, Bool, true, false, cond, not, ◌&&◌, ltb, leb, eqb}
use Rattle.laws.specs.Search.{lowest, any_below}
use Rattle.answer.specs.declared.Outcome.{Outcome}
use Rattle.answer.specs.Outcome.{release_open, number_used, number_ahead, faulty_list, word_in_use}
use Rattle.directory.specs.declared.Directory.{Directory}
use Rattle.area.specs.Prelude.{store_run, open_flag, area_size, list_start, Release, own_release, has_open_release, release_words}
use Rattle.diff.specs.declared.Price.{Price}
use Rattle.diff.specs.Prices.{label_of, prices_of, names}
use Rattle.diff.specs.Reading.{check_diff}
use Rattle.protocol.specs.Release.{size_of, open_prices}
use Rattle.protocol.specs.Checks.{Check, check, check_at, first_refusal, live_card_checks}
use Rattle.protocol.specs.Result.{Result, result_of}

-- a page word that both lists price
unfoldable pub share_word : List Price → List Price → Bool
share_word [] others = false
share_word (p ∷ ps) others = cond (names others (label_of p)) true (share_word ps others)

-- 8: "a word of the list also stands in another card's open release"
unfoldable pub shares_with : List Bool → ℕ → List ℕ → ℕ → List ℕ → ℕ → Bool
shares_with marks pages m c list other =
    not (eqb other c)
    && (has_open_release marks (area_size pages) m other && share_word (open_prices pages m other) (prices_of pages list))

abbrev pub opening_checks : Directory → List ℕ → ℕ → ℕ → List ℕ → List Check
opening_checks d m c number list =
    live_card_checks d m c
    ++ check (has_open_release d.live (size_of d) m c) release_open
    ∷ check_at (leb number (own_release (size_of d) m c).number) number_used (own_release (size_of d) m c).number
    ∷ check (ltb ((own_release (size_of d) m c).number + 1) number) number_ahead
    ∷ check_at (ltb 0 (check_diff d.pages list).number) faulty_list (check_diff d.pages list).value
    ∷ check_at (any_below (shares_with d.live d.pages m c list) d.cards) word_in_use
    (lowest (shares_with d.live d.pages m c list) d.cards)
    ∷ []

-- "copies list, desk and number to the card's own area and sets steps to 0"
unfoldable pub open_memory : ℕ → List ℕ → ℕ → Release → List ℕ → List ℕ
open_memory size m c r list =
    store_run size (store_run size m c open_flag (1 ∷ 0 ∷ release_words r)) c list_start list

unfoldable pub opening : Directory → List ℕ → ℕ → Release → List ℕ → Result
opening d m c r list =
    let o : Outcome = first_refusal (opening_checks d m c r.number list) 0 in
    result_of o (record { outcome = o; directory = d; memory = open_memory (size_of d) m c r list; words = [] }) d m []
