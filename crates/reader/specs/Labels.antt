-- Inner contracts only. A price as a table of prices has it: beside the label of its word, of which 32 bits are kept.
-- Assumes nothing: these are definitions.
use Rattle.std.specs.Prelude.{◌/◌, ◌%◌}
use Rattle.diff.specs.declared.Price.{Price}
use Rattle.diff.specs.Prices.{label_of}
use Rattle.reader.specs.declared.table.LabeledPrice.{LabeledPrice}

abbrev pub labeled : Price → LabeledPrice
labeled p = record { label = label_of p % 0x100000000; price = p.price }

abbrev pub unlabeled : LabeledPrice → Price
unlabeled e = record { page = e.label / 32; word = e.label % 32; price = e.price }
