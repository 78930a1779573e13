-- Rests on the batched call: its refusal, and the steps made as the value.
use mathlib.Core.Path.{◌∙◌}
use Rattle.commands.specs.Execute.{make_steps}
use Rattle.commands.proofs.make_steps.Goals as goal

pub returns : goal.returns
unfolding make_steps
returns c =
    let all = c.steps-reply.ensures in
    let comes = c.outcome_of-came.ensures ∙ all.answer in
    record { outcome = rw (comes, all.made) at c.refused_at.ensures; directory = all.directory; memory = all.memory }
