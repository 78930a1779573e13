-- Inner contracts only. The prices that an iterator over the prices of a diff has left.
-- Assumes nothing: this is a definition.
use Rattle.std.specs.Prelude.{List}
use Rattle.diff.specs.declared.Price.{Price}
use Rattle.reader.specs.declared.walk.Prices.{Prices}
use Rattle.reader.specs.Walking.{prices_left}

unfoldable pub left : Prices → List Price
left s = prices_left s.pages s.list.now s.at
