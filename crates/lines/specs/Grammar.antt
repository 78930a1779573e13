-- Lines and commands as document 01 has them ("Numbers to hold it against"), on the bytes of a whole input: "fields
-- split by one space", "a number is one to ten digits, a line ends at a line feed or the input's end, and nothing
-- after the last line feed is no line".
-- Assumes nothing: these are definitions.
use Rattle.std.specs.Prelude.{ℕ, ◌+◌, ◌-◌, ◌*◌, ◌≡◌, List, [], ◌∷◌, Bool, true, false, cond, ◌&&◌, length, leb, eqb}
use Rattle.std.specs.Prelude.{Option, None, Some}
use Rattle.lines.specs.declared.Command.{Command}
use Rattle.lines.specs.Line.{fresh_line, line_read}
use Rattle.lines.specs.Command.{form_of, command_of}

-- a byte before parts: it ends one, or stands first in the first
unfoldable pub break_at : Bool → ℕ → List (List ℕ) → List (List ℕ)
break_at true b parts = [] ∷ parts
break_at false b [] = (b ∷ []) ∷ []
break_at false b (part ∷ parts) = (b ∷ part) ∷ parts

-- the lines of an input: a line feed is 10
unfoldable pub lines_of : List ℕ → List (List ℕ)
lines_of [] = []
lines_of (b ∷ bs) = break_at (eqb b 10) b (lines_of bs)

-- the fields of a line: a space is 32
unfoldable pub fields_of : List ℕ → List (List ℕ)
fields_of [] = [] ∷ []
fields_of (b ∷ bs) = break_at (eqb b 32) b (fields_of bs)

-- ---- numbers

abbrev pub is_digit : ℕ → Bool
is_digit b = leb 48 b && leb b 57

unfoldable pub all_digits : List ℕ → Bool
all_digits [] = true
all_digits (b ∷ bs) = is_digit b && all_digits bs

-- a number that goes on with these digits
unfoldable pub number_from : ℕ → List ℕ → ℕ
number_from n [] = n
number_from n (b ∷ bs) = number_from (10 * n + (b - 48)) bs

-- "a number is one to ten digits"; "numbers above 4294967295 are unreadable"
abbrev pub is_number : List ℕ → Bool
is_number f = all_digits f && (leb 1 (length f) && (leb (length f) 10 && leb (number_from 0 f) 4294967295))

unfoldable pub all_numbers : List (List ℕ) → Bool
all_numbers [] = true
all_numbers (f ∷ fs) = is_number f && all_numbers fs

unfoldable pub values_of : List (List ℕ) → List ℕ
values_of [] = []
values_of (f ∷ fs) = number_from 0 f ∷ values_of fs

-- ---- commands

-- one letter, then numbers; none where a line is unreadable
unfoldable pub command_in : List (List ℕ) → Option Command
command_in [] = None
command_in ([] ∷ fields) = None
command_in ((letter ∷ []) ∷ numbers) = cond (all_numbers numbers) (form_of (letter ∷ values_of numbers)) None
command_in ((letter ∷ b ∷ bs) ∷ numbers) = None

abbrev pub command : List ℕ → Option Command
command line = command_in (fields_of line)

-- Read byte by byte, every line gives its command.
abbrev pub ReadsCommands : Type 0
ReadsCommands = (line : List ℕ) → command_of (line_read (Some fresh_line) line) ≡ command line
