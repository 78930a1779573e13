-- Rests on what `page_at` and `copy_run` ensure.
use Rattle.area.proofs.pages.copy_half.Goals as goal

pub returns : goal.returns
returns c =
    rw c.page_at-start.ensures at
    c.copy_run.ensures
