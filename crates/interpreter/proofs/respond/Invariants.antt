-- Rests on `process_line` and `more_read`. The loop's invariant: the bytes passed have been read and answered.
use Rattle.std.proofs.Common.{◌≡◌, ◌-◌, ◌≤◌, length}
use Rattle.interpreter.specs.Transcript.{state_of}
use Rattle.interpreter.proofs.Parts.{Reached}
use Rattle.interpreter.proofs.respond.Given as goal

abbrev pub invariant-loop-read : goal.invariant-loop-read
invariant-loop-read l = (l.read ≤ length l.input) × (l.written ≤ length l.output) × (length l.output ≡ length l.initial.output)
    × (length l.memory ≡ length l.initial.memory)
    × Reached (state_of l.initial.session l.initial.memory) l.input l.initial.output (state_of l.session l.memory) l.read l.written l.output

abbrev pub decreases-loop-read : goal.decreases-loop-read
decreases-loop-read l = length l.input - l.read
