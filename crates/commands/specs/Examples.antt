-- Worked examples of shelfrun's commands, computed from the definitions: what each shows.
-- Assumes nothing: these are definitions.
use Rattle.std.specs.Prelude.{ℕ, List, [], ◌∷◌, ◌++◌, take, drop, replicate, Option, None, Some}
use Rattle.laws.specs.Examples.{Example, computed}
use Rattle.laws.specs.Text.{bytes_of}
use Rattle.answer.specs.Outcome.{in_words}
use Rattle.area.specs.Prelude.{zeros}
use Rattle.protocol.specs.Result.{Result}
use Rattle.protocol.specs.Formatting.{formatting}
use Rattle.lines.specs.declared.Command.{Command}
use Rattle.lines.specs.declared.Command.TheVariants.{Open, Step, Fail, Join, Fetch}
use Rattle.commands.specs.Execute.{execute, letter_of}

-- the rack of 3 cards and 4 pages, newly formatted
unfoldable pub new_rack : Result
new_rack = formatting (zeros 2850) 3 4

-- what a command comes to on the rack that the last one left
unfoldable pub next : Option Command → Result → Result
next c r = execute c r.directory r.memory

-- 0 or the refusal, and the value, of each command in turn
unfoldable pub shown_by : List (Option Command) → Result → List ℕ
shown_by [] r = []
shown_by (c ∷ cs) r = in_words (next c r).outcome ++ shown_by cs (next c r)

abbrev pub examples : List Example
examples =
    -- a letter for each command, and - for a line that is none
    computed
    (letter_of (Some (Open 0 0 0 0 0)) ∷ letter_of (Some (Step 0 0)) ∷ letter_of (Some (Fail 0)) ∷ letter_of (Some (Join 0)) ∷ letter_of (Some (Fetch 0 0))
    ∷ letter_of None ∷ [])
    (bytes_of "BSXJF-")
    -- Card 1 fails once its stamp is stored: S shows the steps made, F of a page in motion the card, X the stamp, F
    -- the price, and a number that is used the stamp.
    ∷ computed
    (shown_by (Some (Open 1 1 1 2 250) ∷ Some (Step 1 11) ∷ Some (Fetch 1 2) ∷ Some (Fail 1) ∷ Some (Fetch 1 2) ∷ Some (Join 1) ∷ Some (Open 1 1 1 2 225) ∷ []) new_rack)
    (0 ∷ 0 ∷ 0 ∷ 11 ∷ 10 ∷ 1 ∷ 0 ∷ 1 ∷ 0 ∷ 250 ∷ 0 ∷ 0 ∷ 5 ∷ 1 ∷ [])
    -- S stops at a refusal, and shows the steps made before it; of no steps no call is made, so that none is refused.
    ∷ computed (shown_by (Some (Open 1 1 1 2 250) ∷ Some (Step 1 20) ∷ Some (Step 1 20) ∷ Some (Step 9 0) ∷ Some (Step 9 1) ∷ []) new_rack)
    (0 ∷ 0 ∷ 16 ∷ 15 ∷ 16 ∷ 0 ∷ 0 ∷ 0 ∷ 3 ∷ 0 ∷ [])
    -- a page that the rack has not, in B and in F; a card that it has not; a join of a live card; an unreadable line
    ∷ computed (shown_by (Some (Open 1 1 4 0 5) ∷ Some (Fetch 4 0) ∷ Some (Fail 3) ∷ Some (Join 1) ∷ None ∷ []) new_rack)
    (7 ∷ 0 ∷ 9 ∷ 0 ∷ 3 ∷ 0 ∷ 14 ∷ 0 ∷ 18 ∷ 0 ∷ [])
    -- B opens release 1 with a list of one price and a desk of zeros
    ∷ computed
    (take 12 (drop 960 (next (Some (Open 1 1 1 2 250)) new_rack).memory)
    ++ take 5 (drop 1132 (next (Some (Open 1 1 1 2 250)) new_rack).memory))
    (1 ∷ 0 ∷ 1 ∷ 0 ∷ replicate 8 0 ++ 0x10000001 ∷ 0x20020001 ∷ 250 ∷ 0xF0000003 ∷ 0 ∷ [])
    ∷ []
