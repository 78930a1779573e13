-- A byte or the end of a line that may be no command; and one turn of the loop that reads on to a line feed: what is
-- left to read, read from here, gives the whole.
use Rattle.std.specs.Prelude.{ℕ, ◌+◌, ◌<◌, ◌≡◌, List, length, drop, get_or, Option, None, Some, MatchOption}
use Rattle.laws.proofs.Prelude.{ne_eqb}
use native.Mathlib.Numerals.{add-one}
use native.Mathlib.Nat.{add_assoc}
use lib.Seq.{drop-cons}
use Rattle.lines.specs.Line.{Line, byte_read}
use Rattle.lines.specs.Command.{Command, command_of, part_from}

-- the line can still be a command, or it cannot
pub ended : (line : Option Line) (command : Option Command)
    → MatchOption line (command ≡ None) (λ s. command ≡ command_of (Some s)) → command ≡ command_of line
unfolding command_of
ended None command none = none
ended (Some s) command ends = ends

pub read_into : (line next : Option Line) (b : ℕ) → MatchOption line (next ≡ None) (λ s. next ≡ byte_read (Some s) b)
    → next ≡ byte_read line b
unfolding byte_read
read_into None next b none = none
read_into (Some s) next b reads = reads

pub part_turn : (line next : Option Line) (rest : List ℕ) (from read : ℕ) → next ≡ byte_read line (get_or rest read 0)
    → read < length rest → (get_or rest read 0 ≡ 10 → ⊥)
    → part_from next (from + (read + 1)) (drop (read + 1) rest) ≡ part_from line (from + read) (drop read rest)
unfolding part_from
part_turn line next rest from read reads within other =
    rw (reads, drop-cons rest read 0 within, ← add_assoc from read 1, add-one read) (simp (ne_eqb (get_or rest read 0) 10 other))
