-- Rests on `PricesMade`: the memory with its count is the one that single steps leave; the count is written at the end.
use lib.ListN.{length}
use Rattle.release.specs.Stepping.{viewed}
use Rattle.protocol.specs.Release.{open_prices}
use Rattle.release.proofs.Counting.{PricesMade}
use Rattle.release.proofs.steps.store_prices.Given as goal

abbrev pub invariant-loop-made : goal.invariant-loop-made
invariant-loop-made l = PricesMade (viewed l.directory) l.card (length (open_prices l.directory.header.pages l.initial.memory l.card)) l.initial.memory
    l.steps l.count l.memory l.made
