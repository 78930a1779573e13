-- Rests on the call of the rack.
use mathlib.Core.Path.{◌∙◌}
use Rattle.area.specs.Releases.{release_of}
use Rattle.protocol.specs.Opening.{opening}
use Rattle.bandsawpink.specs.Words.{directory_in}
use Rattle.bandsawpink.proofs.Exported.{answer_exported}
use Rattle.bandsawpink.proofs.rack_open.Goals as goal

pub returns : goal.returns
returns c =
    let a = c.args in
    let d = directory_in a.directory.now in
    let release = release_of a.number a.desk.now in
    let comes = (opening d a.memory.now a.card release a.list.now).outcome in
    let opened = rw c.directory_in-taken.ensures at c.open_release-reply.ensures in
    record { answer = c.in_numbers.ensures ∙ answer_exported _ comes opened.answer; memory = opened.memory }
