-- Rests on `move_from`; a move keeps the directory.
use mathlib.Core.Path.{sym}
use Rattle.mover.specs.declared.forms.Form.TheVariants.{New}
use Rattle.mover.proofs.Results.{keeps_directory}
use Rattle.mover.proofs.move_back.Goals as goal

pub returns : goal.returns
returns c =
    let a = c.args in
    let done = rw c.lend.ensures.whole at c.move_from-answer.ensures in
    record {
      answer = done.answer;
      directory = sym (keeps_directory New a.directory a.new.now a.old.now);
      memory = done.memory;
    }
