-- Fetching a page (document 01: "A fetch copies the committed page at its primary"; refusals 1, 2, 11, 9, 10, 17).
-- Assumes nothing: these are definitions.
use Rattle.std.specs.Prelude.{ℕ, List, [], ◌∷◌, ◌++◌, Bool, true, false, cond, not, ◌&&◌, length, leb, eqb}
use Rattle.laws.specs.Search.{lowest, any_below}
use Rattle.answer.specs.declared.Outcome.{Outcome}
use Rattle.answer.specs.Outcome.{no_page, page_in_motion, wrong_buffer}
use Rattle.directory.specs.declared.Directory.{Directory}
use Rattle.directory.specs.Directory.{primary_of}
use Rattle.area.specs.Prelude.{load_run, area_size, page_size, committed, steps_of, has_open_release}
use Rattle.diff.specs.declared.Price.{Price}
use Rattle.protocol.specs.Release.{size_of, open_prices, counts_at}
use Rattle.protocol.specs.Checks.{Check, check, check_at, first_refusal, running_checks}
use Rattle.protocol.specs.Result.{Result, result_of}

unfoldable pub names_page : List Price → ℕ → Bool
names_page [] page = false
names_page (p ∷ ps) page = cond (eqb p.page page) true (names_page ps page)

-- 10: "the page is in an open release that already counts"
unfoldable pub in_motion : List Bool → ℕ → List ℕ → ℕ → ℕ → Bool
in_motion marks pages m page c =
    has_open_release marks (area_size pages) m c
    && (leb (counts_at (length (open_prices pages m c))) (steps_of (area_size pages) m c)
    && names_page (open_prices pages m c) page)

-- those of a page that is to be shown
abbrev pub page_checks : Directory → List ℕ → ℕ → List Check
page_checks d m page =
    running_checks d m
    ++ check (leb d.pages page) no_page
    ∷ check_at (any_below (in_motion d.live d.pages m page) d.cards) page_in_motion
    (lowest (in_motion d.live d.pages m page) d.cards)
    ∷ []

-- and that of the buffer
abbrev pub fetch_checks : Directory → List ℕ → ℕ → ℕ → List Check
fetch_checks d m page room = page_checks d m page ++ check (not (eqb room page_size)) wrong_buffer ∷ []

unfoldable pub committed_page : Directory → List ℕ → ℕ → List ℕ
committed_page d m page = load_run (size_of d) m (primary_of d page) (committed page) page_size

unfoldable pub fetch : Directory → List ℕ → ℕ → List ℕ → Result
fetch d m page buffer =
    let o : Outcome = first_refusal (fetch_checks d m page (length buffer)) 0 in
    result_of o (record { outcome = o; directory = d; memory = m; words = committed_page d m page }) d m buffer
