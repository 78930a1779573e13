-- Rests on its parts.
use Rattle.bandsawpink.specs.Words.{directory_in}
use Rattle.bandsawpink.proofs.words.header_in.Goals as goal

pub returns : goal.returns
unfolding directory_in
returns c =
    rw (c.marks_in-live.ensures, c.status_in-status.ensures)
