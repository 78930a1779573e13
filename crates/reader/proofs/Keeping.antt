-- A word that is no price keeps the bounds of the reading.
use Rattle.std.specs.Prelude.{ℕ, ◌+◌, ◌*◌, ◌≤◌, ◌≡◌}
use Rattle.laws.proofs.Prelude.{sym, subst, arith}
use Rattle.diff.specs.declared.Cursor.{Cursor}
use Rattle.diff.specs.declared.Step.{Step}
use Rattle.diff.specs.declared.Step.TheVariants.{Next, End, Fault}
use Rattle.diff.specs.Reading.{word_step}
use Rattle.reader.specs.WellFormed.{WellFormed}
use Rattle.reader.specs.Runs.{past_prices}
use Rattle.diff.proofs.Reading.{WordCase, a_price, a_page, a_run, an_end, a_fault, word_case}

-- where no price is due
pub record Idle (s : Cursor) : Type 0 where
  pub idle : s.due ≡ 0
  pub inside : s.word ≤ 32
  pub one : s.gap ≤ 1

-- past a page word or a run word: no price is counted, those due fit on the page, and only a run has them
pub record Passed (s t : Cursor) : Type 0 where
  pub inside : t.word + t.due ≤ 32
  pub one : t.gap ≤ 1
  pub ran : t.due ≤ 32 * t.gap
  pub named : t.due ≤ 32 * t.next
  pub counts : t.prices ≡ s.prices

abbrev After : Cursor → Step → Type 0
After s (Next t) = Passed s t
After s End = Unit {0}
After s Fault = Unit {0}

module _ (pages : ℕ) (s : Cursor) (index w : ℕ) (free : Idle s) where
  case_passed : {step : Step} → WordCase pages s index w step → After s step
  case_passed (a_price due) = absurd (omega arith)
  case_passed (a_page none one gap up fits) =
      record {
        inside = omega arith;
        one = omega arith;
        ran = omega arith;
        named = omega arith;
        counts = omega arith;
      }
  case_passed (a_run none two first some fits past) =
      record {
        inside = omega arith;
        one = omega arith;
        ran = omega arith;
        named = omega arith;
        counts = omega arith;
      }
  case_passed (an_end none fifteen gap own) = tt
  case_passed (a_fault none) = tt

  pub word_passed : (t : Cursor) → Next t ≡ word_step pages s index w → Passed s t
  word_passed t e = subst (After s) (sym e) (case_passed (word_case pages s index w))

-- the bounds that reading on from there asks for
pub passed_well_formed : (s t : Cursor) → Passed s t → s.prices ≤ 512 → WellFormed t
passed_well_formed s t passed few =
    record { within = passed.inside; one = passed.one; few = omega arith; named = passed.named }

-- and past the prices that are due none is
pub passed_idle : (s t : Cursor) → Passed s t → Idle (past_prices t t.due)
passed_idle s t passed = record { idle = omega arith; inside = passed.inside; one = passed.one }
