-- Rests on the two calls: a refused failure is shown, and an accepted one recovered.
use mathlib.Core.Path.{sym, ◌∙◌}
use Rattle.commands.proofs.Results.{failure_keeps, failure-refused, failure-recovered}
use Rattle.commands.proofs.fail_and_recover.Goals as goal

pub returns-in-Err : goal.returns-in-Err
returns-in-Err c =
    let a = c.args in
    let failed = c.fail_card-failed.ensures in
    rw (failure-refused a.directory a.memory.now a.card failed.answer c.in-Err.is) record {
      outcome = c.of_answer.ensures.outcome ∙ (rw c.in-Err.is at failed.answer);
      directory = c.of_answer.ensures.directory ∙ failed.directory;
      memory = sym (failure_keeps a.directory a.memory.now a.card);
    }

pub returns-in-Ok : goal.returns-in-Ok
returns-in-Ok c =
    let a = c.args in
    let failed = c.fail_card-failed.ensures in
    let recovered = c.recover_card-recovered.ensures in
    rw (failure-recovered a.directory a.memory.now a.card failed.answer c.in-Ok.is, ← failed.directory) record {
      outcome = c.of_answer-in-Ok.ensures.outcome ∙ recovered.answer;
      directory = c.of_answer-in-Ok.ensures.directory ∙ recovered.directory;
      memory = recovered.memory;
    }
