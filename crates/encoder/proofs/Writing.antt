-- Writing the runs of a page, one after the other.
use Rattle.std.specs.Prelude.{ℕ, suc, ◌+◌, ◌-◌, ◌/◌, ◌^◌, ◌≤◌, ◌<◌, ◌≡◌, List, ◌∷◌, ◌++◌, length, set, take, drop}
use Rattle.laws.proofs.Prelude.{refl, sym, ap, ◌∙◌, arith}
use Rattle.laws.proofs.Lists.{sets-append}
use native.Mathlib.Nat.{div-one}
use native.Mathlib.Numerals.{add-one}
use lib.ListN.{length-set, length-append, length-take, length-drop}
use lib.Pow.{shr-shr}
use lib.Seq.{sets, length-sets}
use Rattle.diff.specs.Format.{run_word}
use Rattle.encoder.specs.Page.{run_words, FirstRun, Run}
use Rattle.encoder.proofs.Runs.{runs_from, runs_all, runs_none, runs_first, run_within}

-- A list in which the runs before a word are written: those from the word on, stored from `at` on, give all runs of
-- the page, stored from `start` on. `left` has the marks from the word on.
pub record RunsLeft (marks : ℕ) (prices before : List ℕ) (start : ℕ) (list : List ℕ) (at word left : ℕ) : Type 0 where
  pub small : marks < 2 ^ 32
  pub size : length prices ≡ 32
  pub room : (page : ℕ) × (start + length (run_words page marks prices) ≤ length before)
  pub within : word ≤ 32
  pub shifted : left ≡ marks / 2 ^ word
  pub kept : length list ≡ length before
  pub counted : (page : ℕ)
      → at + length (runs_from page marks prices word) ≡ start + length (run_words page marks prices)
  pub stored : (page : ℕ)
      → sets list at (runs_from page marks prices word) ≡ sets before start (run_words page marks prices)

-- none is written yet
pub runs_start : {marks : ℕ} {prices before : List ℕ} (start : ℕ) → marks < 2 ^ 32 → length prices ≡ 32
    → (page : ℕ) × (start + length (run_words page marks prices) ≤ length before)
    → RunsLeft marks prices before start before start 0 marks
runs_start {marks} {prices} {before} start small size room =
    record {
      small = small;
      size = size;
      room = room;
      within = omega arith;
      shifted = sym (div-one marks);
      kept = refl;
      counted = λ page. ap (λ ws. start + length ws) (sym (runs_all page marks prices));
      stored = λ page. ap (sets before start) (sym (runs_all page marks prices));
    }

module _ {marks : ℕ} {prices before : List ℕ} {start : ℕ} {list : List ℕ} {at word left : ℕ}
    (so_far : RunsLeft marks prices before start list at word left) where
  -- no marks are left: all runs are written
  pub runs_end : left ≡ 0 → (page : ℕ) → (at ≡ start + length (run_words page marks prices))
      × (list ≡ sets before start (run_words page marks prices))
  runs_end none_left page =
      let rest = runs_none page marks prices word (sym so_far.shifted ∙ none_left) so_far.within in
      (omega (arith, so_far.counted page, ap length rest), rw rest at (so_far.stored page))

  -- the first run of the marks that are left
  module _ {run : Run} (is : FirstRun left run) where
    abbrev first : ℕ
    first = word + run.offset

    abbrev run_prices : List ℕ
    run_prices = take run.count (drop first prices)

    first_left : FirstRun (marks / 2 ^ word) run
    first_left = rw (← so_far.shifted) is

    pub run_on_page : first + run.count ≤ 32
    run_on_page = run_within 0 marks prices word run first_left so_far.small so_far.size

    length_prices : length run_prices ≡ run.count
    length_prices = simp (length-take, length-drop) (omega (arith, run_on_page, so_far.size))

    module _ (page : ℕ) where
      runs : runs_from page marks prices word
          ≡ run_word first run.count ∷ run_prices ++ runs_from page marks prices (first + run.count)
      runs = runs_first page marks prices word run first_left so_far.small so_far.size

      length_runs : at + length (runs_from page marks prices word)
          ≡ at + 1 + run.count + length (runs_from page marks prices (first + run.count))
      length_runs =
          let behind = runs_from page marks prices (first + run.count) in
          omega (arith, ap length runs, length-append run_prices behind, length_prices)

    pub run_in_list : at + 1 + run.count ≤ length list
    run_in_list =
        let page = so_far.room.0 in
        omega (arith, so_far.kept, so_far.room.1, so_far.counted page, length_runs page)

    -- written, it leaves the runs behind it
    pub run_written : {header : ℕ} {written : List ℕ} {behind : ℕ} → header ≡ run_word first run.count
        → written ≡ sets (set list at header) (at + 1) (take (first + run.count - first) (drop first prices))
        → behind ≡ left / 2 ^ (run.offset + run.count)
        → RunsLeft marks prices before start written (at + 1 + run.count) (first + run.count) behind
    run_written {header} {written} {behind} heads writes shifts =
        let sum : word + (run.offset + run.count) ≡ first + run.count = omega arith in
        record {
          small = so_far.small;
          size = so_far.size;
          room = so_far.room;
          within = run_on_page;
          shifted = rw (shifts, so_far.shifted, ← sum) (shr-shr marks word (run.offset + run.count));
          kept = rw (writes, length-sets, length-set) so_far.kept;
          counted = λ page. sym (length_runs page) ∙ so_far.counted page;
          stored = stores;
        }
      where
        stores : (page : ℕ) → sets written (at + 1 + run.count) (runs_from page marks prices (first + run.count))
            ≡ sets before start (run_words page marks prices)
        stores page =
            let many : first + run.count - first ≡ run.count = omega arith in
            let end : at + 1 + run.count ≡ at + suc run.count = omega arith in
            rw (writes, heads, many, end, add-one) (rw (runs page, sets-append, length_prices) at (so_far.stored page))
