-- The theorem is `prints_transcript` of proofs/Transcript.antt.
use Rattle.interpreter.proofs.Transcript.{prints_transcript}
use Rattle.interpreter.proofs.prints_transcript.Goals as goal

pub returns : goal.returns
returns c = prints_transcript
