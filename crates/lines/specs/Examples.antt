-- Worked examples of shelfrun's lines, computed from the definitions: which lines are commands, and what an answer
-- looks like.
-- Assumes nothing: these are definitions.
use Rattle.std.specs.Prelude.{ℕ, List, [], ◌∷◌, ◌++◌}
use Rattle.std.specs.Prelude.{Option, None, Some}
use Prim.Native.String.{String}
use Rattle.laws.specs.Examples.{Example, computed}
use Rattle.laws.specs.Text.{bytes_of}
use Rattle.lines.specs.Command.{Command}
use Rattle.lines.specs.declared.Command.TheVariants.{Open, Step, Fail, Join, Fetch}
use Rattle.lines.specs.Grammar.{lines_of, command}
use Rattle.lines.specs.Answer.{answer_line}

-- a command as words, by a number for each form; 0 for none
abbrev pub command_words : Option Command → List ℕ
command_words (Some (Open card number page word price)) = 1 ∷ card ∷ number ∷ page ∷ word ∷ price ∷ []
command_words (Some (Step card count)) = 2 ∷ card ∷ count ∷ []
command_words (Some (Fail card)) = 3 ∷ card ∷ []
command_words (Some (Join card)) = 4 ∷ card ∷ []
command_words (Some (Fetch page word)) = 5 ∷ page ∷ word ∷ []
command_words None = 0 ∷ []

abbrev pub read_as : String → List ℕ
read_as line = command_words (command (bytes_of line))

-- each line, with a line feed (10) behind it
abbrev pub with_feeds : List (List ℕ) → List ℕ
with_feeds [] = []
with_feeds (line ∷ lines) = line ++ 10 ∷ with_feeds lines

abbrev pub examples : List Example
examples =
    -- the five forms
    computed (read_as "B 1 2 3 4 250") (1 ∷ 1 ∷ 2 ∷ 3 ∷ 4 ∷ 250 ∷ [])
    ∷ computed (read_as "S 1 11") (2 ∷ 1 ∷ 11 ∷ [])
    ∷ computed (read_as "X 2") (3 ∷ 2 ∷ [])
    ∷ computed (read_as "J 2") (4 ∷ 2 ∷ [])
    ∷ computed (read_as "F 1 2") (5 ∷ 1 ∷ 2 ∷ [])
    -- no other letter, none in lower case, no word, and no letter with fewer or more numbers than its form has
    ∷ computed (read_as "A 1" ++ read_as "x 2" ++ read_as "XX 2" ++ read_as "X" ++ read_as "S 1" ++ read_as "F 1 2 3")
    (0 ∷ 0 ∷ 0 ∷ 0 ∷ 0 ∷ 0 ∷ [])
    -- pages to 63 and words to 31 are read, in B and in F; no higher ones
    ∷ computed (read_as "F 63 31" ++ read_as "B 1 1 63 31 5") (5 ∷ 63 ∷ 31 ∷ 1 ∷ 1 ∷ 1 ∷ 63 ∷ 31 ∷ 5 ∷ [])
    ∷ computed (read_as "F 64 0" ++ read_as "F 0 32" ++ read_as "B 1 1 64 0 5" ++ read_as "B 1 1 0 32 5")
    (0 ∷ 0 ∷ 0 ∷ 0 ∷ [])
    -- numbers to 4294967295, of one to ten digits
    ∷ computed (read_as "X 4294967295" ++ read_as "X 0000000007") (3 ∷ 4294967295 ∷ 3 ∷ 7 ∷ [])
    ∷ computed (read_as "X 4294967296" ++ read_as "X 00000000007" ++ read_as "X 7a" ++ read_as "X -7" ++ read_as "X 7\r")
    (0 ∷ 0 ∷ 0 ∷ 0 ∷ 0 ∷ [])
    -- one space between fields, none before or behind them
    ∷ computed (read_as "X  2" ++ read_as " X 2" ++ read_as "X 2 " ++ read_as "X\t2" ++ read_as "") (0 ∷ 0 ∷ 0 ∷ 0 ∷ 0 ∷ [])
    -- a line ends at a line feed or at the end; nothing behind the last line feed is no line
    ∷ computed (with_feeds (lines_of (bytes_of "ab\n\nc"))) (bytes_of "ab\n\nc\n")
    ∷ computed (with_feeds (lines_of (bytes_of "ab\n\nc\n"))) (bytes_of "ab\n\nc\n")
    ∷ computed (with_feeds (lines_of [])) []
    -- an answer: line number, letter (B is 66, - is 45), refusal and value, with no leading zeros
    ∷ computed (answer_line 7 66 5 1 ++ answer_line 10 45 18 0) (bytes_of "7 B 5 1\n10 - 18 0\n")
    ∷ computed (answer_line 18446744073709551615 70 0 4294967295) (bytes_of "18446744073709551615 F 0 4294967295\n")
    ∷ []
