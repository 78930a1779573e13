-- Rests on the marks, one by one.
use mathlib.Core.Path.{◌≡◌, refl}
use mathlib.Core.Bool.{Bool, true, false, cond}
use mir.Val.{bool_byte}
use Rattle.directory.specs.Directory.{table_from}
use Rattle.bandsawpink.proofs.words.head_of.Goals as goal

as_number : (mark : Bool) → bool_byte mark ≡ cond mark 1 0
as_number true = refl
as_number false = refl

pub returns : goal.returns
unfolding table_from
returns c = rw c.awaited_word.ensures (simp as_number)
