-- Rests on what `reader::cursor` gives.
use Rattle.reader.proofs.walk.first_word.Goals as goal

pub returns : goal.returns
returns c = rw c.cursor-cursor.ensures
