-- Rests on its test: whether a word is left past the prices that are due.
use native.Mathlib.Omega.{arith}
use borrow.Author.Tests.{lt-ltb, le-ltb}
use Rattle.reader.specs.Walking.{past_run}
use Rattle.reader.proofs.walk.next_run.Goals as goal

pub next_word-requires : goal.next_word-requires
next_word-requires c =
    rw c.run_read-past.ensures record {
      well_formed = record { within = omega arith; one = omega arith; few = omega arith; named = omega arith };
      index_in_bounds = c.if-index-list.true;
    }

pub returns-then-index-list : goal.returns-then-index-list
unfolding past_run
returns-then-index-list c =
    rw (lt-ltb _ _ c.if-index-list.true) (rw c.run_read-past.ensures at c.next_word.ensures)

pub returns : goal.returns
unfolding past_run
returns c = rw (le-ltb _ _ c.if-index-list.false)
