-- `diff::one_diff_for_prices` meets its contract: the theorem is `one_diff_for_prices` of proofs/OnlyDiff.antt.
use Rattle.diff.proofs.OnlyDiff.{one_diff_for_prices}
use Rattle.diff.proofs.one_diff_for_prices.Goals as goal

pub returns : goal.returns
returns c = one_diff_for_prices
