-- Rests on the call of the rack.
use mathlib.Core.Path.{◌∙◌}
use Rattle.bandsawpink.proofs.Exported.{answer_exported}
use Rattle.bandsawpink.proofs.rack_join.Goals as goal

pub returns : goal.returns
returns c =
    let joined = rw c.directory_in-taken.ensures at c.join_card-reply.ensures in
    let answers = c.in_numbers-answer.ensures ∙ answer_exported _ _ joined.answer in
    record {
      answer = answers;
      directory = c.hand_back.ensures ∙ rw (answers, joined.directory);
      memory = joined.memory;
    }
