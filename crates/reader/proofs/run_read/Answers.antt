-- Rests on what is due less itself: nothing.
use native.Mathlib.Nat.{sub_self}
use Rattle.reader.proofs.run_read.Goals as goal

pub returns : goal.returns
returns c = rw (sub_self c.args.s.due)
