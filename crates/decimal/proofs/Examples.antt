-- The examples hold: each is computed.
use Rattle.laws.proofs.Prelude.{refl}
use Rattle.laws.specs.Examples.{AllHold, same_words, failures_from, Claims}
use Rattle.laws.proofs.Examples.{all_hold}
use Rattle.decimal.specs.Decimal.{digits_before}
use Rattle.decimal.specs.Examples.{examples}

pub examples_hold : AllHold examples
unfolding same_words failures_from Claims digits_before
examples_hold = all_hold examples refl tt
