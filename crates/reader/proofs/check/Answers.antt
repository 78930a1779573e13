-- `reader::check` meets its contract: it goes by what `read` finds, and refuses a list that is longer than that.
use mathlib.Core.Path.{◌≡◌, sym, ◌∙◌}
use native.Mathlib.Omega.{arith}
use borrow.Author.Tests.{lt-ltb, le-ltb}
use Rattle.std.specs.Prelude.{ℕ, ◌<◌, ◌≤◌, Result, Ok, Err, IsErrAnd}
use Rattle.answer.specs.declared.Refusal.{Refusal}
use Rattle.answer.specs.declared.Refusal.TheVariants.{FaultyList}
use Rattle.answer.specs.Outcome.{given, refused_at, faulty_list}
use Rattle.answer.specs.Refusal.{outcome_of}
use Rattle.diff.specs.declared.Extent.{Extent}
use Rattle.diff.specs.Reading.{whole_diff, check_diff}
use Rattle.reader.proofs.check.Goals as goal

told_as : (answer : Result ℕ Refusal) (place : ℕ) → IsErrAnd answer (λ e. e ≡ FaultyList place)
    → outcome_of answer ≡ refused_at faulty_list place
told_as (Ok value) place refused = absurd refused
told_as (Err refusal) place refused = rw refused

pub returns-in_err-extent : goal.returns-in_err-extent
unfolding check_diff
returns-in_err-extent c =
    let read = sym c.in_err-extent.was ∙ c.read.ensures in
    rw (← read) (told_as c.from_residual.result _ c.from_residual.ensures.1)

longer : (read : Extent) (words : ℕ) → read.words < words → whole_diff words (Ok read) ≡ refused_at faulty_list read.words
longer read words more = rw (lt-ltb read.words words more)

whole : (read : Extent) (words : ℕ) → words ≤ read.words → whole_diff words (Ok read) ≡ given read.prices
whole read words none = rw (le-ltb read.words words none)

pub returns-then-extent-list : goal.returns-then-extent-list
unfolding check_diff
returns-then-extent-list c =
    let read = sym c.in_ok-extent.was ∙ c.read.ensures in
    rw (← read) (sym (longer _ _ (omega (arith, c.if-extent-list.true))))

pub returns : goal.returns
unfolding check_diff
returns c =
    let read = sym c.in_ok-extent.was ∙ c.read.ensures in
    rw (← read) (sym (whole _ _ (omega (arith, c.if-extent-list.false))))
