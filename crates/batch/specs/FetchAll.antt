-- All pages fetched in one call. Document 01 does not name it: it is the single fetch, made for each page in turn.
-- Assumes nothing: these are definitions.
use Rattle.std.specs.Prelude.{ℕ, ◌*◌, List, [], ◌∷◌, ◌++◌, Bool, false, cond, not, length, take, drop, set, replicate}
use Rattle.std.specs.Prelude.{eqb}
use Rattle.std.proofs.lemmas.List.Edits.{sets}
use Rattle.laws.specs.Search.{in_turn}
use Rattle.answer.specs.declared.Outcome.{Outcome}
use Rattle.answer.specs.Outcome.{wrong_buffer}
use Rattle.directory.specs.declared.Directory.{Directory}
use Rattle.area.specs.Prelude.{page_size}
use Rattle.protocol.specs.Checks.{Check, check, first_refusal, running_checks}
use Rattle.protocol.specs.Result.{Result, accepted}
use Rattle.protocol.specs.Fetch.{fetch}

-- the buffer, 32 words for each page, and which pages were shown
pub record FetchedPages : Type 0 where
  pub words : List ℕ
  pub shown : List Bool

abbrev pub fetched_pages : List ℕ → List Bool → FetchedPages
fetched_pages words shown = record { words = words; shown = shown }

-- a page fetched into its part of the buffer: a refused fetch keeps the words, and the page is not shown
unfoldable pub fetch_next : Directory → List ℕ → ℕ → FetchedPages → FetchedPages
fetch_next d m page s =
    let at : ℕ = page_size * page in
    let r : Result = fetch d m page (take page_size (drop at s.words)) in
    fetched_pages (sets s.words at r.words) (set s.shown page (accepted r.outcome))

abbrev pub none_shown : List Bool
none_shown = replicate 64 false

-- 1, 2, 11, and 17 of a buffer of another length
abbrev pub fetch_all_checks : Directory → List ℕ → ℕ → List Check
fetch_all_checks d m room = running_checks d m ++ check (not (eqb room (page_size * d.pages))) wrong_buffer ∷ []

-- what the call comes to and leaves
pub record AllFetched : Type 0 where
  pub outcome : Outcome
  pub directory : Directory
  pub pages : FetchedPages

abbrev pub fetched_to : Outcome → Directory → FetchedPages → AllFetched
fetched_to o d pages = record { outcome = o; directory = d; pages = pages }

unfoldable pub fetch_all : Directory → List ℕ → List ℕ → AllFetched
fetch_all d m buffer =
    let o : Outcome = first_refusal (fetch_all_checks d m (length buffer)) 0 in
    let kept : FetchedPages = fetched_pages buffer none_shown in
    fetched_to o d (cond (accepted o) (in_turn (fetch_next d m) d.pages kept) kept)
