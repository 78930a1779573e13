-- The theorem is `prints_in_parts` of proofs/Parts.antt.
use Rattle.interpreter.proofs.Parts.{prints_in_parts}
use Rattle.interpreter.proofs.prints_in_parts.Goals as goal

pub returns : goal.returns
returns c = prints_in_parts
