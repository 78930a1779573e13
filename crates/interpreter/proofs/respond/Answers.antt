-- Rests on `process_line` and `more_read`. The loop's invariant: the bytes passed have been read and answered.
use Rattle.std.proofs.Common.{arith, rules}
use Rattle.interpreter.proofs.Parts.{none_read, more_read}
use Rattle.interpreter.proofs.respond.Goals as goal

pub loop-read-init : goal.loop-read-init
loop-read-init c = (search rules, search rules, search rules, search rules, none_read)

pub loop-read-preserved : goal.loop-read-preserved
loop-read-preserved c =
    let at = c.loop-read in
    let done = c.process_line-done.ensures in
    let more = c.process_line-done.ensures.places.0 in (
      search rules,
      search rules,
      search rules,
      search rules,
      more_read at.invariant.4 (omega arith) done.state done.end done.output,
    )

pub returns-after-loop-read : goal.returns-after-loop-read
returns-after-loop-read c =
    let done = c.loop-read.invariant in
    record {
      places = (done.0, search rules);
      full = λ some. absurd (omega arith);
      state = done.4.state;
      end = done.4.end;
      output = done.4.output;
    }

pub returns-then-output-written-lt80 : goal.returns-then-output-written-lt80
returns-then-output-written-lt80 c =
    let done = c.loop-read.invariant in
    record {
      places = (done.0, search rules);
      full = λ some. search rules;
      state = done.4.state;
      end = done.4.end;
      output = done.4.output;
    }
