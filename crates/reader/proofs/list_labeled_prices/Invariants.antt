-- `reader::list_labeled_prices` meets its contract. The loop's invariant: the prices so far are listed.
use mathlib.Core.Path.{◌≡◌}
use lib.ListN.{length}
use Rattle.std.proofs.lemmas.List.Edits.{sets}
use Rattle.std.specs.Prelude.{map}
use Rattle.reader.specs.Labels.{labeled}
use Rattle.reader.proofs.list_labeled_prices.Given as goal

abbrev pub invariant-loop-price : goal.invariant-loop-price
invariant-loop-price l = record {
  counted : l.count ≡ length l.yielded;
  listed : l.prices ≡ sets l.fn.prices 0 (map labeled l.yielded);
}
