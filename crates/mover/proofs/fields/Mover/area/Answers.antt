-- Rests on `fits` and `go_on`: head, records, and the words behind them.
use Rattle.mover.proofs.Turns.{start, fits, go_on}
use Rattle.mover.proofs.fields.Mover.area.Goals as goal

pub head-requires : goal.head-requires
head-requires c = fits _ (start c.requires)

pub records-requires : goal.records-requires
records-requires c = fits _ (go_on _ (start c.requires) c.head.ensures)

pub words-requires : goal.words-requires
words-requires c = fits _ (go_on _ (go_on _ (start c.requires) c.head.ensures) c.records.ensures)

pub returns : goal.returns
returns c =
    (go_on _ (go_on _ (go_on _ (start c.requires) c.head.ensures) c.records.ensures) c.words.ensures).moved
