-- Rests on what the word does to the reading, each case by itself.
use native.Mathlib.Omega.{arith}
use Rattle.reader.specs.Walking.{past_word}
use Rattle.reader.proofs.walk.next_word.Goals as goal

pub returns-in-Next : goal.returns-in-Next
unfolding past_word
returns-in-Next c = rw (← c.read_word.ensures, c.in-Next.is)

pub returns-in-End : goal.returns-in-End
unfolding past_word
returns-in-End c = grind arith
