-- `reader::list_prices` meets its contract. The loop's invariant: the prices so far are listed.
use mathlib.Core.Path.{◌≡◌}
use lib.ListN.{length}
use Rattle.std.proofs.lemmas.List.Edits.{sets}
use Rattle.reader.proofs.list_prices.Given as goal

abbrev pub invariant-loop-price : goal.invariant-loop-price
invariant-loop-price l = record {
  counted : l.count ≡ length l.yielded;
  listed : l.prices ≡ sets l.fn.prices 0 l.yielded;
}
