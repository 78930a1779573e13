-- Rests on `end_line`, where a byte of the line has been read.
use Rattle.std.proofs.Common.{sym, ◌∙◌, zero-add, rules}
use Rattle.interpreter.proofs.finish.Goals as goal

pub returns-then-has_begun : goal.returns-then-has_begun
returns-then-has_begun c =
    let ended = c.end_line-ended.ensures in
    let begun = sym c.has_begun.ensures ∙ c.if-has_begun.true in
    record {
      room = search rules;
      end = rw begun (ended.end ∙ zero-add _);
      answer = rw begun ended.answer;
      memory = rw begun ended.memory;
    }

pub returns : goal.returns
returns c =
    let begun = sym c.has_begun.ensures ∙ c.if-has_begun.false in
    record { room = search rules; end = rw begun; answer = rw begun; memory = rw begun }
