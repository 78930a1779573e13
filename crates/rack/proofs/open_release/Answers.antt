-- Rests on `open_lent`; an opening keeps the directory.
use mathlib.Core.Path.{sym}
use Rattle.area.specs.Releases.{release_of}
use Rattle.rack.proofs.Results.{opening_keeps}
use Rattle.rack.proofs.open_release.Goals as goal

pub returns : goal.returns
returns c =
    let a = c.args in
    let done = rw (c.lend.ensures.header, c.lend.ensures.primary, c.lend.ensures.secondary) at c.open_lent-answer.ensures in
    record {
      answer = done.answer;
      directory = sym (opening_keeps a.directory a.memory.now a.card (release_of a.number a.desk) a.list.now);
      memory = done.memory;
    }
