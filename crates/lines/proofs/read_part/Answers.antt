use Rattle.std.proofs.Common.{◌∙◌, rules}
use Rattle.lines.proofs.Parts.{read_into, part_turn}
use Rattle.lines.proofs.read_part.Goals as goal

pub loop-read-preserved : goal.loop-read-preserved
loop-read-preserved c =
    part_turn _ _ _ _ _ (read_into _ _ _ (search rules)) c.loop-read-test.true c.if-b-eq10.false ∙ c.loop-read.invariant
