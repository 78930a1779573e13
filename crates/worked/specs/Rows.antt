-- Document 01's worked numbers with ◆ ("Numbers to hold it against"), as rows of one list, computed from the
-- definitions that the calls' contracts cite; the first and the last but one are as document 02, request 5, makes them,
-- and the lists are made with the words that differ marked, as its request 2 says.
-- A row shows outcomes beside words, or words that an accepted call alone changes, and buffers that are lent hold
-- sevens: a call that is refused meets none.
-- Assumes nothing: these are definitions.
use Rattle.std.specs.Prelude.{ℕ, zero, suc, ◌≤◌, ◌<◌, ◌≡◌, List, [], ◌∷◌, ◌++◌, true, false, length, set, take}
use Rattle.std.specs.Prelude.{replicate}
use Rattle.laws.specs.Examples.{Example, computed, claimed}
use Rattle.answer.specs.Outcome.{in_words, refused_at, number_used}
use Rattle.directory.specs.declared.Directory.{Directory}
use Rattle.directory.specs.declared.Status.TheVariants.{Running}
use Rattle.directory.specs.Directory.{is_live, table_from}
use Rattle.area.specs.Prelude.{load, zeros, record_stamp, open_flag, Release, release_of, own_release, has_open_release, load_number}
use Rattle.area.specs.Prelude.{open_release, steps_of}
use Rattle.diff.specs.Marks.{change_marks}
use Rattle.diff.specs.Making.{make_diff, buffer_after}
use Rattle.protocol.specs.Release.{size_of}
use Rattle.protocol.specs.Checks.{outside_limits, unfit_rack}
use Rattle.protocol.specs.Result.{Result}
use Rattle.protocol.specs.Calls.{formatting, opening, step, fetch, failure, recovery}

-- ---- "that rack, newly formatted": 3 cards, 4 pages

abbrev pub sevens : ℕ → List ℕ
sevens n = replicate n 7

unfoldable pub new_rack : Result
new_rack = formatting (sevens 2850) 3 4

abbrev pub formatted_with : ℕ → List ℕ
formatted_with words = in_words (formatting (sevens words) 3 4).outcome

-- ---- lists

-- the pages with words 2 and 3 of page 1 at 250 and 199
unfoldable pub changed_pages : List ℕ
changed_pages = set (set (zeros 128) 34 250) 35 199

unfoldable pub two_prices : List ℕ
two_prices = 0x10000001 ∷ 0x20020002 ∷ 0xFA ∷ 0xC7 ∷ 0xF0000004 ∷ []

unfoldable pub no_price : List ℕ
no_price = 0xF0000000 ∷ []

-- what the list maker answers for working pages whose twins are zero, with the words that differ marked, and its buffer
abbrev pub made : List ℕ → List ℕ
made working =
    in_words (make_diff working (zeros 128) (change_marks working (zeros 128)) 6)
    ++ buffer_after working (zeros 128) (change_marks working (zeros 128)) (sevens 6)

-- ---- release 1 of card 1, whose desk wants the words 50 to 57 back

abbrev pub desk : List ℕ
desk = table_from (λ word. word) 50 8

unfoldable pub opened : List ℕ → Result
opened list = opening new_rack.directory new_rack.memory 1 (release_of 1 desk) list

-- what opening it comes to
abbrev pub opened_with : List ℕ → List ℕ
opened_with list = in_words (opened list).outcome

unfoldable pub stepped : ℕ → Result → Result
stepped zero r = r
stepped (suc n) r = stepped n (step r.directory r.memory 1)

-- after so many steps: the stamp of card 1's record on its backup, card 2
abbrev pub stamp_after : List ℕ → ℕ → ℕ
stamp_after list steps = load_number 950 (stepped steps (opened list)).memory 2 (record_stamp 1)

-- after so many steps: whether the release is open, the steps made and its number; each accepted step counts
abbrev pub release_after : List ℕ → ℕ → List ℕ
release_after list steps =
    let m : List ℕ = (stepped steps (opened list)).memory in
    load 950 m 1 open_flag ∷ steps_of 950 m 1 ∷ (open_release 950 m 1).number ∷ []

-- ---- ".. by card 1, which dies after .. steps"

-- card 1 makes its steps; a card dies; its recovery
unfoldable pub recovered_from : ℕ → ℕ → Result
recovered_from steps card =
    let after : Result = stepped steps (opened two_prices) in
    let dead : Result = failure after.directory after.memory card in
    recovery dead.directory dead.memory

-- what the recovery comes to, what a fetch of page 1 then comes to, and the buffer
unfoldable pub shown_after : Result → List ℕ
shown_after r =
    let fetched : Result = fetch r.directory r.memory 1 (sevens 32) in
    in_words r.outcome ++ in_words fetched.outcome ++ fetched.words

-- what a recovery comes to, and the homes of the four pages after it
unfoldable pub homes_after : Result → List ℕ
homes_after r = in_words r.outcome ++ take 4 r.directory.primary ++ take 4 r.directory.secondary

-- the recovery found this stamp; the fetch is accepted, and shows these prices as words 2 and 3
abbrev pub found : ℕ → ℕ → ℕ → List ℕ
found stamp third fourth = 0 ∷ stamp ∷ 0 ∷ 0 ∷ 0 ∷ 0 ∷ third ∷ fourth ∷ zeros 28

-- card 1 died after 12 steps, all tentative words and the desk being stored: the recovery rolled the release back
abbrev pub rolled_back : Example
rolled_back = computed (shown_after (recovered_from 12 1)) (found 0 0 0)

-- it died after 13, its stamp being stored: the recovery rolled the release forward
abbrev pub rolled_forward : Example
rolled_forward = computed (shown_after (recovered_from 13 1)) (found 1 250 199)

-- card 2 died while card 1's release had made 5 steps: the recovery completed it
abbrev pub completed : Example
completed = computed (shown_after (recovered_from 5 2)) (found 0 250 199)

-- ---- "On a live card of a running rack with no release open"

pub record Idle (d : Directory) (m : List ℕ) (card : ℕ) : Type 0 where
  pub limits : outside_limits (length m) d.cards d.pages ≡ false
  pub fit : unfit_rack d m ≡ false
  pub running : d.status ≡ Running
  pub exists : card < d.cards
  pub live : is_live d card ≡ true
  pub idle : has_open_release d.live (size_of d) m card ≡ false

abbrev pub EveryNumberUsed : Type 0
EveryNumberUsed =
    (d : Directory) (m : List ℕ) (card : ℕ) (r : Release) (list : List ℕ) → Idle d m card
    → (own_release (size_of d) m card).number ≡ 18446744073709551615 → r.number ≤ 18446744073709551615
    → (opening d m card r list).outcome ≡ refused_at number_used 18446744073709551615

abbrev pub NumberZeroUsed : Type 0
NumberZeroUsed =
    (d : Directory) (m : List ℕ) (card : ℕ) (r : Release) (list : List ℕ) → Idle d m card → r.number ≡ 0
    → (opening d m card r list).outcome ≡ refused_at number_used (own_release (size_of d) m card).number

-- ---- the twelve rows

abbrev pub rows : List Example
rows =
    -- "3 cards, 4 pages: 2850 words. 2849 and 2851 give 1."
    computed (formatted_with 2850 ++ formatted_with 2849 ++ formatted_with 2851) (0 ∷ 0 ∷ 1 ∷ 0 ∷ 1 ∷ 0 ∷ [])
    -- "Page 1, words 2 and 3 from 0 to 250 and 199 (hex): 10000001 20020002 000000FA 000000C7 F0000004."
    ∷ computed (made changed_pages) (0 ∷ 5 ∷ two_prices ++ sevens 1)
    -- "19 steps, stamp at step 13."
    ∷ computed
    (stamp_after two_prices 12 ∷ stamp_after two_prices 13 ∷ release_after two_prices 18 ++ release_after two_prices 19)
    (0 ∷ 1 ∷ 1 ∷ 18 ∷ 1 ∷ 0 ∷ 0 ∷ 0 ∷ [])
    -- "No change: F0000000, 11 steps, stamp at step 9."
    ∷ computed
    (made (zeros 128) ++ stamp_after no_price 8 ∷ stamp_after no_price 9
    ∷ release_after no_price 10 ++ release_after no_price 11)
    (0 ∷ 1 ∷ no_price ++ sevens 5 ++ 0 ∷ 1 ∷ 1 ∷ 10 ∷ 1 ∷ 0 ∷ 0 ∷ 0 ∷ [])
    -- "The list with 250 and 199, released .. by card 1, which dies after 12 steps: page 1 is zero."
    ∷ rolled_back
    -- "After 13: 250 and 199."
    ∷ rolled_forward
    -- "Homes then: page 0 on 0 and 2, 1 on 2 and 0, 2 on 2 and 0, 3 on 0 and 2."
    ∷ computed (homes_after (recovered_from 13 1)) (0 ∷ 1 ∷ 0 ∷ 2 ∷ 2 ∷ 0 ∷ 2 ∷ 0 ∷ 0 ∷ 2 ∷ [])
    -- "Run offset 31 count 1 is allowed"
    ∷ computed (opened_with (0x10000000 ∷ 0x201F0001 ∷ 7 ∷ 0xF0000003 ∷ [])) (0 ∷ 0 ∷ [])
    -- "count 2 is refused at its index."
    ∷ computed (opened_with (0x10000000 ∷ 0x201F0002 ∷ 7 ∷ 8 ∷ 0xF0000004 ∷ [])) (7 ∷ 1 ∷ [])
    -- "A list of no words: 7, place 0."
    ∷ computed (opened_with []) (7 ∷ 0 ∷ [])
    -- "at stamp 18446744073709551615 every number gives 5"
    ∷ claimed EveryNumberUsed
    -- "number 0 gives 5 at each stamp"
    ∷ claimed NumberZeroUsed
    ∷ []

-- ---- demand 3 is not empty: what accepted fetches show after a recovery

abbrev pub shown : List Example
shown = rolled_forward ∷ rolled_back ∷ completed ∷ []
