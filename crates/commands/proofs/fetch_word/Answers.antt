-- Rests on the call of the rack: a refusal is shown, and of an accepted fetch one word.
use mathlib.Core.Path.{◌∙◌}
use borrow.Author.Tests.{ne_eqb}
use Rattle.answer.proofs.Refusals.{numbered}
use Rattle.memory.specs.Words.{zeros}
use Rattle.commands.specs.Execute.{fetch_word}
use Rattle.commands.proofs.fetch_word.Goals as goal

pub returns-in-Err : goal.returns-in-Err
unfolding fetch_word zeros
returns-in-Err c =
    let fetched = c.fetch_page-reply.ensures in
    let comes = rw c.in-Err.is at fetched.answer in
    record {
      outcome = c.of_answer.ensures.outcome ∙ rw (← comes) (simp (ne_eqb _ _ (numbered c.in-Err.refusal)));
      directory = c.of_answer.ensures.directory ∙ fetched.directory;
    }

pub returns-in-Ok : goal.returns-in-Ok
unfolding fetch_word zeros
returns-in-Ok c =
    let fetched = c.fetch_page-reply.ensures in
    let comes = rw c.in-Ok.is at fetched.answer in
    record {
      outcome = c.of_answer-in-Ok.ensures.outcome ∙ rw (← comes, ← fetched.buffer, ← c.price_in.ensures);
      directory = c.of_answer-in-Ok.ensures.directory ∙ fetched.directory;
    }
