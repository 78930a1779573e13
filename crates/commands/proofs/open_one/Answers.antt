-- Rests on the call of the rack.
use mathlib.Core.Path.{◌∙◌}
use Rattle.memory.specs.Words.{zeros}
use Rattle.commands.specs.Execute.{open_one}
use Rattle.commands.proofs.open_one.Goals as goal

pub returns : goal.returns
unfolding open_one zeros
returns c =
    let opened = c.open_release-reply.ensures in
    record {
      outcome = c.of_answer.ensures.outcome ∙ opened.answer;
      directory = c.of_answer.ensures.directory ∙ opened.directory;
      memory = opened.memory;
    }
