-- Rests on `fetch_all_lent`; a fetch of all pages keeps the directory.
use mathlib.Core.Path.{sym}
use Rattle.batch.proofs.Fetching.{fetch_all_keeps}
use Rattle.batch.proofs.fetch_all.Goals as goal

pub returns : goal.returns
returns c =
    let a = c.args in
    let lent = c.lend.ensures in
    let done = rw (lent.header, lent.primary, lent.secondary) at c.fetch_all_lent-fetched.ensures in
    record {
      answer = done.answer;
      directory = sym (fetch_all_keeps a.directory a.memory.now a.buffer.now);
      pages = done.pages;
    }
