-- What a command of shelfrun does (document 01, "Numbers to hold it against": the lines B, S, X, J and F; "The value
-- is steps made (S), stamp found (X), the price (F), else 0; a refusal shows its place, but S its steps made").
-- Assumes nothing: these are definitions.
use Rattle.std.specs.Prelude.{ℕ, List, [], ◌∷◌, cond, get_or, Option, None, Some}
use Rattle.answer.specs.declared.Outcome.{Outcome}
use Rattle.answer.specs.Outcome.{given, refused_at, refused, unreadable}
use Rattle.directory.specs.declared.Directory.{Directory}
use Rattle.area.specs.Prelude.{zeros, desk_size, page_size, release_of}
use Rattle.diff.specs.Format.{page_word, run_word, end_word}
use Rattle.protocol.specs.Result.{Result, accepted}
use Rattle.protocol.specs.Calls.{opening, fetch, failure, recovery, join}
use Rattle.batch.specs.Steps.{Stepped, steps}
use Rattle.lines.specs.declared.Command.{Command}
use Rattle.lines.specs.declared.Command.TheVariants.{Open, Step, Fail, Join, Fetch}

-- what a command shows, and the rack that it leaves
abbrev pub shown : Outcome → Directory → List ℕ → Result
shown o d m = record { outcome = o; directory = d; memory = m; words = [] }

-- B: "a one-price list"
abbrev pub one_price : ℕ → ℕ → ℕ → List ℕ
one_price page word price = page_word page ∷ run_word word 1 ∷ price ∷ end_word 3 ∷ []

-- B: "(a one-price list, desk zero)"
unfoldable pub open_one : ℕ → ℕ → ℕ → ℕ → ℕ → Directory → List ℕ → Result
open_one card number page word price d m =
    opening d m card (release_of number (zeros desk_size)) (one_price page word price)

-- S: "steps until count or a refusal"; the value is steps made, refused or not
unfoldable pub make_steps : ℕ → ℕ → Directory → List ℕ → Result
make_steps card count d m =
    let s : Stepped = steps d m card count in
    shown (refused_at s.outcome.number s.made) s.directory s.memory

-- X: "failure, then recovery"
unfoldable pub fail_and_recover : ℕ → Directory → List ℕ → Result
fail_and_recover card d m =
    let r : Result = failure d m card in
    cond (accepted r.outcome) (recovery r.directory r.memory) r

-- F: the price of one word of the page fetched
unfoldable pub fetch_word : ℕ → ℕ → Directory → List ℕ → Result
fetch_word page word d m =
    let r : Result = fetch d m page (zeros page_size) in
    shown (cond (accepted r.outcome) (given (get_or r.words word 0)) r.outcome) r.directory m

unfoldable pub execute : Option Command → Directory → List ℕ → Result
execute (Some (Open card number page word price)) d m = open_one card number page word price d m
execute (Some (Step card count)) d m = make_steps card count d m
execute (Some (Fail card)) d m = fail_and_recover card d m
execute (Some (Join card)) d m = join d m card
execute (Some (Fetch page word)) d m = fetch_word page word d m
execute None d m = shown (refused unreadable) d m

-- the letter that an answer shows: B, S, X, J or F, "- if unreadable"
abbrev pub letter_of : Option Command → ℕ
letter_of (Some (Open card number page word price)) = 66
letter_of (Some (Step card count)) = 83
letter_of (Some (Fail card)) = 88
letter_of (Some (Join card)) = 74
letter_of (Some (Fetch page word)) = 70
letter_of None = 45
