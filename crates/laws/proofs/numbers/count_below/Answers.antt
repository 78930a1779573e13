-- Rests on `Counted`: below 0 none is counted.
use Rattle.std.proofs.Common.{arith}
use Rattle.laws.proofs.Search.{counted_none}
use Rattle.laws.proofs.numbers.count_below.Goals as goal

pub loop-i-init : goal.loop-i-init
loop-i-init g c = (omega arith, λ passes agree. counted_none)
