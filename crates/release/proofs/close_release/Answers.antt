-- Rests on `close_stores`: the stores and clears in this order are the close.
use Rattle.release.proofs.Ends.{close_stores}
use Rattle.release.proofs.close_release.Goals as goal

pub returns : goal.returns
returns c =
    let a = c.args in
    rw (
      c.clear_run-2.ensures,
      c.clear_run.ensures,
      c.store_run.ensures,
      c.store_number.ensures,
      c.load_run.ensures,
      c.load_number-number.ensures,
    )
    (close_stores a.size a.memory.now a.card)
