-- Rests on what `store_run_in` ensures, of a number in the words of the target's form.
use mathlib.Core.Path.{refl}
use mathlib.Core.List.{append-nil}
use native.Mathlib.Nat.{add-zero}
use native.Mathlib.Omega.{arith}
use lib.Seq.{get_or-drop}
use Rattle.mover.specs.Fields.{moved}
use Rattle.mover.proofs.Turns.{number_words}
use Rattle.mover.proofs.fields.Mover.number.Goals as goal

pub returns : goal.returns
unfolding moved
returns c =
    record {
      source = refl;
      from = refl;
      to = refl;
      target = refl;
      read = omega arith;
      written = omega arith;
      words = rw (append-nil, get_or-drop, add-zero, ← number_words, ← c.width-width.ensures) c.store_run_in.ensures;
    }
