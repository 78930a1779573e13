-- The loop's invariant: the tally of the prices so far.
use mathlib.Core.Path.{◌≡◌}
use lib.ListN.{length}
use Rattle.protocol.specs.Fetch.{names_page}
use Rattle.conflict.proofs.motion.tally_prices.Given as goal

abbrev pub invariant-loop-price : goal.invariant-loop-price
invariant-loop-price l = record {
  counted : l.prices ≡ length l.yielded;
  found : l.named ≡ names_page l.yielded l.page;
}
