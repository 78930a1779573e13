-- Rests on the parts of the program, which write the parts of the transcript.
use Rattle.std.proofs.Common.{◌≡◌, take, replicate, rules}
use Rattle.interpreter.specs.Transcript.{state_of, last_answer}
use Rattle.shelfrun.proofs.Parts.{front_of, started, transcript_written}
use Rattle.shelfrun.proofs.run.Goals as goal

pub returns : goal.returns
returns g c =
    let start = c.start-session in
    let last = c.finish-written in
    let m = replicate 2850 0 in
    let after = state_of c.in_ok-last.last c.answer_input.new.memory in
    let starts : state_of start.result start.new.memory ≡ started m = rw (start.ensures.session, start.ensures.memory) in
    let text = last_answer c.in_ok-last.last c.answer_input.new.memory in
    let answer : take last.result last.new.output ≡ text =
    rw last.ensures.answer (front_of text (replicate 80 0) last.result last.ensures.end (search rules))
    in
    transcript_written m c.write_all-2.result (g.R.Read.remaining c.args.from.now) (state_of start.result start.new.memory) after
    (g.W.Write.contents c.args.to.now) (g.W.Write.contents c.write_all.new.self) (g.W.Write.contents c.answer_input.new.to)
    (g.W.Write.contents c.write_all-2.new.self) starts (rw c.first_line.ensures at c.in_ok-write_all.ensures.bytes) c.in_ok-last.ensures
    (rw answer at c.write_all-2.ensures.bytes)
