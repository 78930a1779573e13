-- A line read byte by byte (document 01, "Numbers to hold it against": "fields split by one space", "a number is one
-- to ten digits").
-- Assumes nothing: these are definitions.
use Rattle.std.specs.Prelude.{ℕ, ◌+◌, ◌-◌, ◌*◌, List, [], ◌∷◌, Bool, true, cond, set, replicate, ltb, leb, eqb}
use Rattle.std.specs.Prelude.{Option, None, Some}
pub use Rattle.lines.specs.declared.Line.{Line}

-- before the first byte
abbrev pub fresh_line : Line
fresh_line = record { fields = replicate 6 0; count = 0; bytes = 0; value = 0 }

-- ---- the next byte of a line; none where the line is then no command, whatever follows

-- a space or the line's end: the field has a byte at least, and no command has more than six
unfoldable pub ended_field : Line → Option Line
ended_field s =
    cond (eqb s.bytes 0) None
    (cond (ltb s.count 6)
    (Some (record { fields = set s.fields s.count s.value; count = s.count + 1; bytes = 0; value = 0 }))
    None)

-- a field of so many bytes and this value
abbrev pub with_field : Line → ℕ → ℕ → Line
with_field s bytes value = record { fields = s.fields; count = s.count; bytes = bytes; value = value }

-- the first field is one letter
unfoldable pub letter_read : Line → ℕ → Option Line
letter_read s b = cond (eqb s.bytes 0) (Some (with_field s 1 b)) None

abbrev pub number_with : Line → ℕ → ℕ
number_with s b = 10 * s.value + (b - 48)

-- "a number is one to ten digits"; "numbers above 4294967295 are unreadable"
unfoldable pub digit_read : Line → ℕ → Option Line
digit_read s b =
    cond (ltb b 48) None
    (cond (ltb 57 b) None
    (cond (leb 10 s.bytes) None
    (cond (ltb 4294967295 (number_with s b)) None (Some (with_field s (s.bytes + 1) (number_with s b))))))

-- "fields split by one space": two spaces have an empty field between them
unfoldable pub byte_read : Option Line → ℕ → Option Line
byte_read None b = None
byte_read (Some s) b = cond (eqb b 32) (ended_field s) (cond (eqb s.count 0) (letter_read s b) (digit_read s b))

-- ---- a whole line

-- "nothing after the last line feed is no line": whether a byte of the line has been read
abbrev pub has_begun : Option Line → Bool
has_begun None = true
has_begun (Some s) = cond (eqb s.count 0) (ltb 0 s.bytes) true

-- the bytes of a line, one after the other
unfoldable pub line_read : Option Line → List ℕ → Option Line
line_read s [] = s
line_read s (b ∷ bs) = line_read (byte_read s b) bs
