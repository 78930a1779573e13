-- Rests on `fits` and `go_on`: one field after the other.
use Rattle.mover.proofs.Turns.{start, fits, go_on}
use Rattle.mover.proofs.fields.Mover.record.Goals as goal

pub number-requires-2 : goal.number-requires-2
number-requires-2 c = fits _ (go_on _ (start c.requires) c.number.ensures)

pub words-requires : goal.words-requires
words-requires c = fits _ (go_on _ (go_on _ (start c.requires) c.number.ensures) c.number-2.ensures)

pub returns : goal.returns
returns c =
    (go_on _ (go_on _ (go_on _ (start c.requires) c.number.ensures) c.number-2.ensures) c.words.ensures).moved
