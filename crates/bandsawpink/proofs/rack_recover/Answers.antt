-- Rests on the call of the rack.
use mathlib.Core.Path.{◌∙◌}
use Rattle.bandsawpink.proofs.Exported.{desk_exported}
use Rattle.bandsawpink.proofs.rack_recover.Goals as goal

pub returns : goal.returns
returns c =
    let recovered = rw c.directory_in-taken.ensures at c.recover_card-reply.ensures in
    let answers = c.with_desk-answer.ensures ∙ desk_exported _ _ recovered.answer recovered.desk in
    record {
      answer = answers;
      directory = c.hand_back.ensures ∙ rw (answers, recovered.directory);
      memory = recovered.memory;
    }
