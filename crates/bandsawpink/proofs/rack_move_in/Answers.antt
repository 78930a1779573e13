-- Rests on the call of the mover.
use mathlib.Core.Path.{◌∙◌}
use Rattle.mover.specs.Move.{move_in}
use Rattle.bandsawpink.specs.Words.{directory_in}
use Rattle.bandsawpink.proofs.Exported.{answer_exported}
use Rattle.bandsawpink.proofs.rack_move_in.Goals as goal

pub returns : goal.returns
returns c =
    let a = c.args in
    let comes = (move_in (directory_in a.directory.now) a.old.now a.memory.now).outcome in
    let moved = rw c.directory_in-taken.ensures at c.move_in-reply.ensures in
    record { answer = c.in_numbers.ensures ∙ answer_exported _ comes moved.answer; memory = moved.memory }
