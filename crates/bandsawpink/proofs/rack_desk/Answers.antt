-- Rests on the call of the rack.
use mathlib.Core.Path.{◌∙◌}
use Rattle.bandsawpink.proofs.Exported.{desk_exported}
use Rattle.bandsawpink.proofs.rack_desk.Goals as goal

pub returns : goal.returns
returns c =
    let asked = rw c.directory_in-taken.ensures at c.ask_desk-reply.ensures in
    c.with_desk.ensures ∙ desk_exported _ _ asked.answer asked.desk
