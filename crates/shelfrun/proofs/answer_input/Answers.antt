-- Rests on `answer_part`, and on what a reader gives in two reads.
use Rattle.std.proofs.Common.{rules, [], ◌++◌, take}
use Rattle.std.proofs.KnownBytes.{Consumes-nil, Consumes-trans}
use Rattle.interpreter.specs.Transcript.{state_of}
use Rattle.shelfrun.proofs.Parts.{nothing_read, read_on}
use Rattle.shelfrun.proofs.answer_input.Goals as goal

pub parts-init : goal.parts-init
parts-init g c = (
  search rules,
  (
    [],
    Consumes-nil (g.R.Read.remaining c.args.from.now),
    nothing_read (state_of c.args.session c.args.memory.now) (g.W.Write.contents c.args.to.now),
  ),
)

pub parts-preserved : goal.parts-preserved
parts-preserved g c =
    let read = c.parts.invariant.1 in
    let part = take c.in_ok-n.n c.read.new.buf in
    let start = state_of c.args.session c.args.memory.now in (
      search rules,
      (
        read.0 ++ part,
        Consumes-trans (g.R.Read.remaining c.args.from.now) (g.R.Read.remaining c.parts.from) (g.R.Read.remaining c.read.new.self) read.0 part
            read.1 c.in_ok-n.ensures.bytes.0,
        read_on start read.0 part (state_of c.parts.session c.parts.memory) (state_of c.in_ok-session.session c.answer_part.new.memory)
            (g.W.Write.contents c.args.to.now) (g.W.Write.contents c.parts.to) (g.W.Write.contents c.answer_part.new.to) read.2
            c.in_ok-session.ensures.answered.state c.in_ok-session.ensures.answered.written,
      ),
    )
