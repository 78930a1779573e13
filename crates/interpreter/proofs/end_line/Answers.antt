-- Rests on the callees: the line's command is executed, and its outcome appended.
use Rattle.std.proofs.Common.{◌≡◌, ◌∙◌, rules}
use Rattle.lines.specs.Command.{command_of}
use Rattle.lines.proofs.Parts.{ended}
use Rattle.interpreter.specs.Transcript.{answered}
use Rattle.interpreter.proofs.end_line.Goals as goal

pub returns : goal.returns
unfolding answered
returns c =
    let read : c.and_then-command.result ≡ command_of c.args.session.line = ended _ _ (search rules) in
    let done = c.execute-shown.ensures in
    let letter = c.letter_of.ensures in
    let appended = c.append_answer-written.ensures in
    record {
      answer = appended.answer ∙ rw (letter, done.outcome, read);
      end = appended.end ∙ rw (letter, done.outcome, read);
      room = appended.room;
      session = rw (done.directory, c.fresh.ensures, read);
      memory = done.memory ∙ rw read;
    }
