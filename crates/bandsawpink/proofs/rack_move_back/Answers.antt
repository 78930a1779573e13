-- Rests on the call of the mover.
use mathlib.Core.Path.{◌∙◌}
use Rattle.mover.specs.Move.{move_back}
use Rattle.bandsawpink.specs.Words.{directory_in}
use Rattle.bandsawpink.proofs.Exported.{answer_exported}
use Rattle.bandsawpink.proofs.rack_move_back.Goals as goal

pub returns : goal.returns
returns c =
    let a = c.args in
    let comes = (move_back (directory_in a.directory.now) a.memory.now a.old.now).outcome in
    let moved = rw c.directory_in-taken.ensures at c.move_back-reply.ensures in
    record { answer = c.in_numbers.ensures ∙ answer_exported _ comes moved.answer; old = moved.memory }
