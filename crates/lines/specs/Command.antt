-- The command of a line that has ended (document 01, "Numbers to hold it against": the lines B, S, X, J and F; "Pages
-- above 63, words above 31 .. are unreadable. So is any other form").
-- Assumes nothing: these are definitions.
use Rattle.std.specs.Prelude.{ℕ, ◌+◌, List, [], ◌∷◌, Bool, cond, ◌&&◌, take, leb, eqb, Option, None, Some}
pub use Rattle.lines.specs.declared.Command.{Command}
pub use Rattle.lines.specs.declared.Part.{Part}
use Rattle.lines.specs.declared.Command.TheVariants.{Open, Step, Fail, Join, Fetch}
use Rattle.lines.specs.declared.Line.{Line}
use Rattle.lines.specs.Line.{ended_field, byte_read}

-- ---- the command that fields make; none where they have no form

-- "Pages above 63, words above 31 .. are unreadable"
unfoldable pub is_label : ℕ → ℕ → Bool
is_label page word = leb page 63 && leb word 31

-- B card number page word price
unfoldable pub open_form : List ℕ → Option Command
open_form (card ∷ number ∷ page ∷ word ∷ price ∷ []) =
    cond (is_label page word) (Some (Open card number page word price)) None
open_form _ = None

-- S card count
unfoldable pub step_form : List ℕ → Option Command
step_form (card ∷ count ∷ []) = Some (Step card count)
step_form _ = None

-- X card
unfoldable pub fail_form : List ℕ → Option Command
fail_form (card ∷ []) = Some (Fail card)
fail_form _ = None

-- J card
unfoldable pub join_form : List ℕ → Option Command
join_form (card ∷ []) = Some (Join card)
join_form _ = None

-- F page word
unfoldable pub fetch_form : List ℕ → Option Command
fetch_form (page ∷ word ∷ []) = cond (is_label page word) (Some (Fetch page word)) None
fetch_form _ = None

-- by the letter: B, S, X, J or F
unfoldable pub form_of : List ℕ → Option Command
form_of [] = None
form_of (letter ∷ numbers) =
    cond (eqb letter 66) (open_form numbers)
    (cond (eqb letter 83) (step_form numbers)
    (cond (eqb letter 88) (fail_form numbers)
    (cond (eqb letter 74) (join_form numbers)
    (cond (eqb letter 70) (fetch_form numbers) None))))

-- a line's end: the command of its fields
abbrev pub form_after : Option Line → Option Command
form_after None = None
form_after (Some s) = form_of (take s.count s.fields)

unfoldable pub command_of : Option Line → Option Command
command_of None = None
command_of (Some s) = form_after (ended_field s)

-- ---- the input up to a line's end

-- "a line ends at a line feed": the line so far and the bytes before the next line feed, and where that stands
unfoldable pub part_from : Option Line → ℕ → List ℕ → Part
part_from s at [] = record { line = s; at = at }
part_from s at (b ∷ bs) = cond (eqb b 10) (record { line = s; at = at }) (part_from (byte_read s b) (at + 1) bs)
