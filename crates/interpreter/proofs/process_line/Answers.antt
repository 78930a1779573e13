-- Rests on the laws of `Parts`: the part read, and at a line feed the answer.
use Rattle.std.proofs.Common.{sym, add-zero, arith}
use Rattle.interpreter.proofs.Parts.{ends, part_places, line_state, line_printed}
use Rattle.interpreter.proofs.process_line.Goals as goal

pub returns-then-at-input : goal.returns-then-at-input
returns-then-at-input c =
    let ended = c.end_line-ended.ensures in
    let part = c.read_part-part in
    let a = c.args in
    let s = c.args.session in
    let m = c.args.memory.now in
    let input = c.args.input.now in
    let places = part_places s m input a.from part.result part.ensures c.requires.0 in
    record {
      places = (omega arith, omega arith, ended.room);
      state = rw (ended.session, ended.memory)
          (sym (line_state s m input a.from part.result part.ensures c.requires.0 c.if-at-input.true));
      end = rw (line_printed s m input a.from part.result part.ensures c.requires.0 c.if-at-input.true) ended.end;
      output = rw (line_printed s m input a.from part.result part.ensures c.requires.0 c.if-at-input.true) ended.answer;
    }

pub returns : goal.returns
returns c =
    let part = c.read_part-part in
    let a = c.args in
    let s = c.args.session in
    let m = c.args.memory.now in
    let input = c.args.input.now in
    let places = part_places s m input a.from part.result part.ensures c.requires.0 in
    let passed = ends s m input a.from part.result part.ensures c.requires.0 in
    record {
      places = (omega arith, omega arith, omega arith);
      state = sym passed.state;
      end = rw (passed.silent, add-zero);
      output = rw passed.silent;
    }
