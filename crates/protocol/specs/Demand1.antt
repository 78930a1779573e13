-- Demand 1 over the definitions: "a refusal changes no word of what was lent", and has a number of
-- document 01's table, or of document 02's.
-- Assumes nothing: these are definitions.
use Rattle.std.specs.Prelude.{ℕ, ◌≡◌, List, [], ◌∷◌, Bool, true, false, cond, length, eqb}
use Rattle.answer.specs.declared.Outcome.{Outcome}
use Rattle.directory.specs.declared.Directory.{Directory}
use Rattle.directory.specs.Directory.{empty_directory}
use Rattle.area.specs.Prelude.{zeros, desk_size}
use Rattle.diff.specs.Making.{make_diff, buffer_after, mark_changes, marks_after}
use Rattle.diff.specs.Merging.{merge_diffs, merged_buffer}
use Rattle.protocol.specs.Result.{Result, accepted}
use Rattle.protocol.specs.Formatting.{formatting}
use Rattle.protocol.specs.Calls.{Call, start_release, make_step, fetch_page, fail_card, recover, join_card}
use Rattle.protocol.specs.Calls.{ask_desk, perform}

-- document 01, "What the rack refuses": the numbers by which each call refuses, in the order of its checks
abbrev pub refusals_of : Call → List ℕ
refusals_of (start_release card r list) = 1 ∷ 2 ∷ 11 ∷ 3 ∷ 4 ∷ 5 ∷ 6 ∷ 7 ∷ 8 ∷ []
refusals_of (make_step card) = 1 ∷ 2 ∷ 11 ∷ 3 ∷ 16 ∷ []
refusals_of (fetch_page page buffer) = 1 ∷ 2 ∷ 11 ∷ 9 ∷ 10 ∷ 17 ∷ []
refusals_of (fail_card card) = 1 ∷ 2 ∷ 11 ∷ 3 ∷ 13 ∷ []
refusals_of recover = 1 ∷ 2 ∷ 12 ∷ []
refusals_of (join_card card) = 1 ∷ 2 ∷ 11 ∷ 3 ∷ 14 ∷ 15 ∷ []
refusals_of (ask_desk card) = 1 ∷ 2 ∷ 11 ∷ 3 ∷ []

-- what a refused call hands back: the fetch its buffer as it came, calls that answer desk words only zeros
abbrev pub handed_back : Call → List ℕ
handed_back (start_release card r list) = []
handed_back (make_step card) = []
handed_back (fetch_page page buffer) = buffer
handed_back (fail_card card) = []
handed_back recover = zeros desk_size
handed_back (join_card card) = []
handed_back (ask_desk card) = zeros desk_size

unfoldable pub is_among : List ℕ → ℕ → Bool
is_among [] n = false
is_among (k ∷ ks) n = cond (eqb k n) true (is_among ks n)

pub record Unchanged (refusals : List ℕ) (d : Directory) (m buffer : List ℕ) (result : Result) : Type 0 where
  pub numbered : is_among refusals result.outcome.number ≡ true
  pub directory : result.directory ≡ d
  pub memory : result.memory ≡ m
  pub words : result.words ≡ buffer

-- refused list work: by one of these numbers, of which some name a place, and the lent buffer, of a list or of marks, holds
-- what it held
pub record BufferKept (refusals placed buffer : List ℕ) (outcome : Outcome) (after : List ℕ) : Type 0 where
  pub numbered : is_among refusals outcome.number ≡ true
  pub no_place : is_among placed outcome.number ≡ false → outcome.value ≡ 0
  pub words : after ≡ buffer

pub record Demand1 : Type 0 where
  pub calls :
      (call : Call) (d : Directory) (m : List ℕ) → accepted (perform call d m).outcome ≡ false
      → Unchanged (refusals_of call) d m (handed_back call) (perform call d m)
  -- "Refused formatting gives one that is running, with 0 cards, 0 pages, all dead, homes 0."
  pub formats :
      (m : List ℕ) (cards pages : ℕ) → accepted (formatting m cards pages).outcome ≡ false
      → Unchanged (1 ∷ []) empty_directory m [] (formatting m cards pages)
  -- The list maker: 1 where the lent pages are of unequal length or not 32 words times 1 to 64, or there is not one word
  -- of marks for each, 17 where the list is longer than its buffer or than 512 words.
  pub lists :
      (working twins marks buffer : List ℕ) → accepted (make_diff working twins marks (length buffer)) ≡ false
      → BufferKept (1 ∷ 17 ∷ []) [] buffer (make_diff working twins marks (length buffer))
      (buffer_after working twins marks buffer)
  -- The marks of what differs: 1 for any of these lengths.
  pub marks :
      (working twins marks : List ℕ)
      → accepted (mark_changes (length working) (length twins) (length marks)) ≡ false
      → BufferKept (1 ∷ []) [] marks (mark_changes (length working) (length twins) (length marks))
      (marks_after working twins marks)
  -- Two lists made one (document 02, request 9): 7 where a list is faulty, at its place, 19 where the result is over 512
  -- words, 17 where it is longer than its buffer.
  pub merges :
      (first second buffer : List ℕ) → accepted (merge_diffs first second (length buffer)) ≡ false
      → BufferKept (7 ∷ 19 ∷ 17 ∷ []) (7 ∷ []) buffer (merge_diffs first second (length buffer))
      (merged_buffer first second buffer)
