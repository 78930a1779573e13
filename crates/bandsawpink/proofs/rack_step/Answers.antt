-- Rests on the call of the rack: the words that it is lent are the directory.
use mathlib.Core.Path.{◌∙◌}
use Rattle.bandsawpink.proofs.Exported.{answer_exported}
use Rattle.bandsawpink.proofs.rack_step.Goals as goal

pub returns : goal.returns
returns c =
    let stepped =
    rw (c.lent_in-lent.ensures.header, c.lent_in-lent.ensures.primary, c.lent_in-lent.ensures.secondary) at
    c.step_lent-answer.ensures
    in
    record { answer = c.in_numbers.ensures ∙ answer_exported _ _ stepped.answer; memory = stepped.memory }
