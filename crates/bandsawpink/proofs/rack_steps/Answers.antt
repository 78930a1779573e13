-- Rests on the batched call.
use mathlib.Core.Path.{◌∙◌}
use Rattle.bandsawpink.proofs.Exported.{steps_exported}
use Rattle.bandsawpink.proofs.rack_steps.Goals as goal

pub returns : goal.returns
returns c =
    let taken = c.directory_in-taken.ensures in
    let stepped = rw taken at c.steps-reply.ensures in
    record { answer = c.with_made.ensures ∙ steps_exported _ _ stepped.answer stepped.made; memory = stepped.memory }
