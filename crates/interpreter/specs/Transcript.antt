-- What shelfrun prints for its input (document 01, "Numbers to hold it against").
-- Assumes nothing: these are definitions.
use Rattle.std.specs.Prelude.{ℕ, ◌+◌, ◌%◌, ◌^◌, ◌≡◌, List, [], ◌∷◌, ◌++◌, cond, eqb, Option, Some}
use Rattle.directory.specs.declared.Directory.{Directory}
use Rattle.protocol.specs.Result.{Result}
use Rattle.protocol.specs.Formatting.{formatting}
use Rattle.lines.specs.declared.Line.{Line}
use Rattle.lines.specs.Line.{fresh_line, byte_read, has_begun}
use Rattle.lines.specs.Command.{command_of}
use Rattle.lines.specs.Grammar.{lines_of, command}
use Rattle.lines.specs.Answer.{answer_line}
use Rattle.commands.specs.Execute.{execute, letter_of}
pub use Rattle.interpreter.specs.declared.Session.{Session}

-- between two bytes of the input: the rack's directory, the number of the line being read, and what is read of it
abbrev pub session_of : Directory → ℕ → Option Line → Session
session_of d number line = record { directory = d; number = number; line = line }

-- the session with this much of its line read
abbrev pub with_line : Session → Option Line → Session
with_line s line = session_of s.directory s.number line

-- ---- the end of a line

abbrev pub executed : Session → List ℕ → Result
executed s m = execute (command_of s.line) s.directory m

-- "line number, letter (- if unreadable), 0 or the refusal, value"
unfoldable pub answered : Session → List ℕ → List ℕ
answered s m =
    answer_line s.number (letter_of (command_of s.line)) (executed s m).outcome.number
    (executed s m).outcome.value

-- the next line; line numbers are 64 bits
abbrev pub next_line : Session → List ℕ → Session
next_line s m = session_of (executed s m).directory ((s.number + 1) % 2 ^ 64) (Some fresh_line)

-- ---- the input

-- between two bytes of the input: the session, and the rack's memory
pub record State : Type 0 where
  pub session : Session
  pub memory : List ℕ

abbrev pub state_of : Session → List ℕ → State
state_of s m = record { session = s; memory = m }

-- a line feed (10) ends the line, any other byte is read into it
abbrev pub byte_taken : State → ℕ → State
byte_taken t b =
    cond (eqb b 10) (state_of (next_line t.session t.memory) (executed t.session t.memory).memory)
    (state_of (with_line t.session (byte_read t.session.line b)) t.memory)

-- at a line feed the answer to the line, else nothing
abbrev pub byte_printed : State → ℕ → List ℕ
byte_printed t b = cond (eqb b 10) (answered t.session t.memory) []

-- the state after some bytes of the input, and what is printed for the lines that end in them
unfoldable pub state_after : State → List ℕ → State
state_after t [] = t
state_after t (b ∷ bs) = state_after (byte_taken t b) bs

unfoldable pub printed : State → List ℕ → List ℕ
printed t [] = []
printed t (b ∷ bs) = byte_printed t b ++ printed (byte_taken t b) bs

-- ---- the end of the input

-- "a line ends at a line feed or the input's end, and nothing after the last line feed is no line": what is printed
-- for the last line
abbrev pub last_answer : Session → List ℕ → List ℕ
last_answer s m = cond (has_begun s.line) (answered s m) []

-- the memory once the input has ended
abbrev pub last_memory : Session → List ℕ → List ℕ
last_memory s m = cond (has_begun s.line) (executed s m).memory m

-- what is printed from here on
unfoldable pub replies : Session → List ℕ → List ℕ → List ℕ
replies s m input =
    let t : State = state_after (state_of s m) input in
    printed (state_of s m) input ++ last_answer t.session t.memory

-- However an input is cut in two: what the first part prints, and what is printed from there on, are what is printed
-- for the whole.
abbrev pub PrintsInParts : Type 0
PrintsInParts =
    (s : Session) (m part rest : List ℕ)
    → let t : State = state_after (state_of s m) part in
    replies s m (part ++ rest) ≡ printed (state_of s m) part ++ replies t.session t.memory rest

-- ---- the whole

-- "formats 3 cards and 4 pages": the session before the first byte
abbrev pub first_session : List ℕ → Session
first_session m = session_of (formatting m 3 4).directory 1 (Some fresh_line)

-- "rack 3 4"
abbrev pub first_line : List ℕ
first_line = 114 ∷ 97 ∷ 99 ∷ 107 ∷ 32 ∷ 51 ∷ 32 ∷ 52 ∷ 10 ∷ []

-- an answer for each line, the rack going from line to line
unfoldable pub answers : ℕ → Directory → List ℕ → List (List ℕ) → List ℕ
answers number d m [] = []
answers number d m (line ∷ lines) =
    let r : Result = execute (command line) d m in
    answer_line number (letter_of (command line)) r.outcome.number r.outcome.value
    ++ answers ((number + 1) % 2 ^ 64) r.directory r.memory lines

-- what the program prints, on a memory that is handed to it, for its whole input
abbrev pub transcript : List ℕ → List ℕ → List ℕ
transcript m input =
    first_line ++ answers 1 (formatting m 3 4).directory (formatting m 3 4).memory (lines_of input)

-- The first line and what is printed from the first byte on are the transcript.
abbrev pub PrintsTranscript : Type 0
PrintsTranscript =
    (m input : List ℕ) → first_line ++ replies (first_session m) (formatting m 3 4).memory input ≡ transcript m input
