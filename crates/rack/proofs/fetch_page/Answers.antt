-- Rests on `fetch_lent`; a fetch keeps the directory.
use mathlib.Core.Path.{sym}
use Rattle.rack.proofs.Results.{fetch_keeps}
use Rattle.rack.proofs.fetch_page.Goals as goal

pub returns : goal.returns
returns c =
    let a = c.args in
    let done = rw (c.lend.ensures.header, c.lend.ensures.primary, c.lend.ensures.secondary) at c.fetch_lent-answer.ensures in
    record {
      answer = done.answer;
      directory = sym (fetch_keeps a.directory a.memory.now a.page a.buffer.now);
      buffer = done.buffer;
    }
