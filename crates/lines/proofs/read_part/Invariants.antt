-- What is left of the input, read from here, gives the whole.
use Rattle.std.proofs.Common.{◌≡◌, ◌+◌, drop}
use Rattle.lines.specs.Command.{part_from}
use Rattle.lines.proofs.read_part.Given as goal

abbrev pub invariant-loop-read : goal.invariant-loop-read
invariant-loop-read l =
    part_from l.line (l.from + l.read) (drop l.read l.rest)
    ≡ part_from l.initial.line l.from (drop l.from l.input)
