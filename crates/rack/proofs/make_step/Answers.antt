-- Rests on `step_lent`; a step keeps the directory.
use mathlib.Core.Path.{sym}
use Rattle.rack.proofs.Results.{step_keeps}
use Rattle.rack.proofs.make_step.Goals as goal

pub returns : goal.returns
returns c =
    let a = c.args in
    let done = rw (c.lend.ensures.header, c.lend.ensures.primary, c.lend.ensures.secondary) at c.step_lent-answer.ensures in
    record {
      answer = done.answer;
      directory = sym (step_keeps a.directory a.memory.now a.card);
      memory = done.memory;
    }
