-- Inner contracts only. The pages of a rack that passed its checks, fetched in one call: which are in motion is known
-- before the first is copied, and each other page's words are its committed ones. `FetchAll` says what the call is to
-- come to.
-- Assumes nothing: these are definitions.
use Rattle.std.specs.Prelude.{ℕ, ◌*◌, ◌<◌, ◌≤◌, List, Bool, false, cond, not, length, get_or, set}
use Rattle.std.proofs.lemmas.List.Edits.{sets}
use Rattle.directory.specs.declared.Directory.{Directory}
use Rattle.area.specs.Prelude.{page_size}
use Rattle.protocol.specs.Fetch.{committed_page}
use Rattle.batch.specs.FetchAll.{FetchedPages, fetched_pages}

-- the buffer after a page: its words are kept if it is marked
abbrev pub words_after : List Bool → Directory → List ℕ → ℕ → List ℕ → List ℕ
words_after moving d m page words =
    cond (get_or moving page false) words (sets words (page_size * page) (committed_page d m page))

abbrev pub show_next : List Bool → Directory → List ℕ → ℕ → FetchedPages → FetchedPages
show_next moving d m page s =
    fetched_pages (words_after moving d m page s.words) (set s.shown page (not (get_or moving page false)))

-- each page has a primary home that is a card
pub record PrimariesIn (cards pages : ℕ) (primary : List ℕ) : Type 0 where
  pub long : pages ≤ length primary
  pub below : (page : ℕ) → page < pages → get_or primary page 0 < cards
