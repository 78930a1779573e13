-- The theorem is `reads_commands` of proofs/Grammar.antt.
use Rattle.lines.proofs.Grammar.{reads_commands}
use Rattle.lines.proofs.reads_commands.Goals as goal

pub returns : goal.returns
returns c = reads_commands
