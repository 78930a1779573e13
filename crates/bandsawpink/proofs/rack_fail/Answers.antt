-- Rests on the call of the rack.
use mathlib.Core.Path.{◌∙◌}
use Rattle.bandsawpink.proofs.Exported.{answer_exported}
use Rattle.bandsawpink.proofs.rack_fail.Goals as goal

pub returns : goal.returns
returns c =
    let failed = rw c.directory_in-taken.ensures at c.fail_card-reply.ensures in
    let answers = c.in_numbers-answer.ensures ∙ answer_exported _ _ failed.answer in
    record { answer = answers; directory = c.hand_back.ensures ∙ rw (answers, failed.directory) }
