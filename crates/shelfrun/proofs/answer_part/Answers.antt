-- Rests on `respond`, the interpreter's laws on parts, and what is appended in two writes.
use Rattle.std.proofs.Common.{◌<◌, ◌≡◌, refl, [], ◌++◌, length, take, length-drop, arith, rules}
use lib.ListN.{length-take}
use Rattle.interpreter.specs.Transcript.{state_of, printed}
use Rattle.interpreter.proofs.Parts.{some_read}
use Rattle.shelfrun.proofs.Parts.{front_of, left_over, on_err, nothing_read, read_on, failed_after}
use Rattle.shelfrun.proofs.answer_part.Goals as goal

pub outputs-init : goal.outputs-init
outputs-init g c = (
  refl,
  refl,
  ([], refl, nothing_read (state_of c.args.session c.args.memory.now) (g.W.Write.contents c.args.to.now)),
)

pub outputs-smaller : goal.outputs-smaller
outputs-smaller g c =
    let now = c.outputs in
    let done = c.respond-done in
    let some : 0 < length now.rest.now = search rules in
    let more =
    some_read (state_of now.session now.memory) now.rest.now done.result.read done.result.written done.ensures.end
    done.ensures.full (omega arith) some
    in
    simp (length-take, length-drop) (omega arith)

pub outputs-preserved : goal.outputs-preserved
outputs-preserved g c =
    let now = c.outputs in
    let done = c.respond-done in
    let read = now.invariant.2 in
    let more = take done.result.read now.rest.now in
    let state = state_of now.session now.memory in
    let output : take done.result.written done.new.output ≡ printed state more =
    rw done.ensures.output
    (front_of (printed state more) now.output done.result.written done.ensures.end done.ensures.places.1)
    in (
      search rules,
      search rules,
      (
        read.0 ++ more,
        left_over c.args.input.now read.0 now.rest.now done.result.read read.1,
        read_on (state_of c.args.session c.args.memory.now) read.0 more state (state_of done.result.session done.new.memory)
            (g.W.Write.contents c.args.to.now) (g.W.Write.contents now.to) (g.W.Write.contents c.write_all.new.self) read.2
            done.ensures.state (rw output at c.in_ok-write_all.ensures.bytes),
      ),
    )

pub returns-in_err-write_all-clause-failed : goal.returns-in_err-write_all-clause-failed
returns-in_err-write_all-clause-failed g c =
    let now = c.outputs in
    let done = c.respond-done in
    let read = now.invariant.2 in
    let more = take done.result.read now.rest.now in
    on_err c.from_residual.result (
      length (read.0 ++ more),
      (
        done.result.session,
        failed_after (state_of c.args.session c.args.memory.now) c.args.input.now read.0 more _ _ _
            (left_over c.args.input.now read.0 now.rest.now done.result.read read.1) read.2.state done.ensures.state,
      ),
    )
