-- Rests on what `page_at` and `load_run` ensure.
use Rattle.area.proofs.pages.load_committed.Goals as goal

pub returns : goal.returns
returns c =
    rw (c.page_at-start.ensures, c.requires.buffer_len) at c.load_run.ensures
