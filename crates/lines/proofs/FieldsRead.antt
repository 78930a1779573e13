-- The fields of a line that have ended, and what is left of the line: the field that is being read ends.
use Rattle.std.specs.Prelude.{ℕ, ◌+◌, ◌≤◌, ◌<◌, ◌≡◌, List, [], ◌∷◌, ◌++◌, false, cond, ◌&&◌, ltb, eqb, length}
use Rattle.std.specs.Prelude.{take, set, Option, None, Some}
use Rattle.laws.proofs.Prelude.{sym, ap, ◌∙◌, arith, ne_eqb, lt-ltb, le-ltb}
use native.Mathlib.Numerals.{add-one}
use lib.ListN.{length-set, length-append}
use lib.Seq.{take-suc-set}
use Rattle.lines.specs.declared.Command.{Command}
use Rattle.lines.specs.Line.{Line, ended_field}
use Rattle.lines.specs.Command.{form_of, form_after, command_of}
use Rattle.lines.specs.Grammar.{number_from, all_numbers, values_of}
use Rattle.lines.proofs.Forms.{form_long}
use Rattle.lines.proofs.Unreadable.{first, second, below_or_not}
use Rattle.lines.proofs.Numbers.{continues}

-- ---- the fields of a line, from one that is being read on

-- vs are the fields that have ended, the letter and numbers
pub record FieldsRead (s : Line) (vs : List ℕ) : Type 0 where
  pub count : s.count ≡ length vs
  pub front : take (length vs) s.fields ≡ vs
  pub six : length s.fields ≡ 6
  pub begun : 0 < length vs
  pub few : s.bytes ≤ 10
  pub small : s.value ≤ 4294967295

-- what the line comes to: the field being read goes on with the first of these
unfoldable pub resumed : List ℕ → ℕ → ℕ → List (List ℕ) → Option Command
resumed vs k v [] = None
resumed vs k v (f ∷ fs) =
    cond (continues k v f && all_numbers fs) (form_of (vs ++ number_from v f ∷ values_of fs)) None

module _ (s : Line) (vs : List ℕ) (fields_read : FieldsRead s vs) (some : 1 ≤ s.bytes) where
  abbrev pub ended : Line
  ended =
      record {
        fields = set s.fields s.count s.value;
        count = s.count + 1;
        bytes = 0;
        value = 0;
      }

  has_bytes : eqb s.bytes 0 ≡ false
  has_bytes = ne_eqb s.bytes 0 (λ e. omega arith)

  pub ended-field : s.count < 6 → ended_field s ≡ Some ended
  unfolding ended_field
  ended-field room = second (eqb s.bytes 0) _ _ has_bytes ∙ first (ltb s.count 6) _ _ (lt-ltb s.count 6 room)

  pub no_seventh : 6 ≤ s.count → ended_field s ≡ None
  unfolding ended_field
  no_seventh full = second (eqb s.bytes 0) _ _ has_bytes ∙ second (ltb s.count 6) _ _ (le-ltb s.count 6 full)

  longer : length (vs ++ s.value ∷ []) ≡ s.count + 1
  longer = simp length-append (omega (arith, fields_read.count))

  ended_front : s.count < 6 → take (s.count + 1) (set s.fields s.count s.value) ≡ vs ++ s.value ∷ []
  ended_front room =
      let all : take s.count s.fields ≡ vs = rw fields_read.count fields_read.front in
      rw add-one
      (take-suc-set s.fields s.count s.value (omega (arith, fields_read.six)) ∙ ap
      (λ l. l ++ s.value ∷ []) all)

  pub fields_read_ended : s.count < 6 → FieldsRead ended (vs ++ s.value ∷ [])
  fields_read_ended room =
      record {
        count = sym longer;
        front = rw longer (ended_front room);
        six = simp length-set fields_read.six;
        begun = omega (arith, longer);
        few = omega arith;
        small = omega arith;
      }

  -- what ends the line, or is ended by a seventh field
  full_form : 6 ≤ s.count → form_of (vs ++ s.value ∷ []) ≡ None
  full_form full = form_long (vs ++ s.value ∷ []) (omega (arith, longer))

  pub at_end : command_of (Some s) ≡ form_of (vs ++ s.value ∷ [])
  unfolding command_of
  at_end =
      below_or_not s.count 6 (λ room. ap form_after (ended-field room) ∙ ap form_of (ended_front room))
      (λ full. ap form_after (no_seventh full) ∙ sym (full_form full))
