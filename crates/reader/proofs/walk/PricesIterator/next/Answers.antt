-- `Prices::next` meets its contract: a word is passed, and gives the price that it is, if it is one.
use Prim.Native.Nat.{◌<◌, ◌≤◌}
use mathlib.Core.Path.{sym, ◌∙◌}
use native.Mathlib.Omega.{arith}
use Rattle.std.proofs.lemmas.Grind.{common_steps}
use Rattle.reader.specs.Left.{left}
use Rattle.reader.proofs.Walking.{reached_next, fewer_left, past_due, left_due, left_none_due, left_end}
use Rattle.reader.proofs.walk.PricesIterator.next.Goals as goal

pub invariant_of-self : goal.invariant_of-self
invariant_of-self c =
    let s = c.loop-self.self in
    rw c.price_read.ensures record { few = s.few; reached = omega arith }

pub returns-then-cursor-gt0-clause-steps : goal.returns-then-cursor-gt0-clause-steps
unfolding left
returns-then-cursor-gt0-clause-steps c =
    let s = c.loop-self.self in
    let due : 0 < s.at.cursor.due = omega (arith, c.if-cursor-gt0.true) in
    let first = left_due s.pages s.list.now s.at c.loop-self-test.true due in
    let past = past_due s.pages s.list.now s.at c.loop-self-test.true due in
    sym c.loop-self.invariant ∙ first ∙ rw (past, ← c.price_read.ensures)

pub returns-then-cursor-gt0-clause-goes : goal.returns-then-cursor-gt0-clause-goes
unfolding left
returns-then-cursor-gt0-clause-goes c =
    let s = c.loop-self.self in
    let due : 0 < s.at.cursor.due = omega (arith, c.if-cursor-gt0.true) in
    let first = sym c.loop-self.invariant ∙ left_due s.pages s.list.now s.at c.loop-self-test.true due in
    let past = past_due s.pages s.list.now s.at c.loop-self-test.true due in
    let same = c.price_read.ensures in
    grind (arith, common_steps)

pub invariant_of-self-in-loop-self : goal.invariant_of-self-in-loop-self
invariant_of-self-in-loop-self c =
    let s = c.loop-self.self in
    rw c.next_word-self.ensures record {
      few = s.few;
      reached = reached_next s.pages s.list.now s.at c.loop-self-test.true s.reached;
    }

pub loop-self-smaller : goal.loop-self-smaller
loop-self-smaller c =
    let s = c.loop-self.self in
    rw c.next_word-self.ensures (fewer_left s.pages s.list.now s.at c.loop-self-test.true s.reached)

pub loop-self-preserved : goal.loop-self-preserved
unfolding left
loop-self-preserved c =
    let s = c.loop-self.self in
    let idle : s.at.cursor.due ≤ 0 = omega (arith, c.if-cursor-gt0.false) in
    rw c.next_word-self.ensures
    (sym (left_none_due s.pages s.list.now s.at c.loop-self-test.true idle) ∙ c.loop-self.invariant)

pub returns-clause-steps : goal.returns-clause-steps
unfolding left
returns-clause-steps c =
    let s = c.loop-self.self in
    let none = left_end s.pages s.list.now s.at c.loop-self-test.false in
    (sym c.loop-self.invariant ∙ none, none)
