-- Rests on its parts.
use Rattle.bandsawpink.proofs.words.directory_in.Goals as goal

pub returns : goal.returns
returns c =
    rw (c.header_in-header.ensures, c.primary_in-primary.ensures.result_value, c.secondary_in-secondary.ensures.result_value)
