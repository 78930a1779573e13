-- Rests on `open_stores`: the five stores in this order are the opening.
use Rattle.release.proofs.Ends.{open_stores}
use Rattle.release.proofs.open_release.Goals as goal

pub returns : goal.returns
returns c =
    let a = c.args in
    rw (
      c.store_run-2.ensures,
      c.store_run.ensures,
      c.store_number.ensures,
      c.store_word-2.ensures,
      c.store_word.ensures,
    )
    (open_stores a.size a.memory.now a.card a.number a.desk.now a.list.now)
