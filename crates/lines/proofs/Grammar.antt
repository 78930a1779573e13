-- Read byte by byte, a line gives the command that document 01's grammar has for it.
use Rattle.std.specs.Prelude.{ℕ, ◌≡◌, List, [], ◌∷◌, Bool, true, false, eqb, None, Some}
use Rattle.laws.proofs.Prelude.{refl, ◌∙◌, arith, eqb-true}
use Rattle.lines.specs.Line.{Line, fresh_line, ended_field, with_field, letter_read, byte_read, line_read}
use Rattle.lines.specs.Command.{command_of}
use Rattle.lines.specs.Grammar.{break_at, fields_of, all_numbers, values_of, command_in, ReadsCommands}
use Rattle.lines.proofs.Unreadable.{dead}
use Rattle.lines.proofs.Numbers.{by_fields, starts}
use Rattle.lines.proofs.FieldsRead.{FieldsRead, resumed}
use Rattle.lines.proofs.Resuming.{resume}

module _ (b : ℕ) where
  abbrev lettered : Line
  lettered = with_field fresh_line 1 b

  abbrev letter_ended : Line
  letter_ended =
      record { fields = b ∷ 0 ∷ 0 ∷ 0 ∷ 0 ∷ 0 ∷ []; count = 1; bytes = 0; value = 0 }

  fields_read_letter : FieldsRead letter_ended (b ∷ [])
  fields_read_letter =
      record {
        count = refl;
        front = refl;
        six = refl;
        begun = omega arith;
        few = omega arith;
        small = omega arith;
      }

  letter_alone : command_of (Some lettered) ≡ command_in ((b ∷ []) ∷ [])
  unfolding command_of ended_field command_in all_numbers values_of
  letter_alone = refl

  letter_space : (bs : List ℕ) → command_of (line_read (byte_read (Some lettered) 32) bs) ≡ command_in ((b ∷ []) ∷ fields_of bs)
  unfolding byte_read ended_field command_in resumed all_numbers values_of
  letter_space bs =
      resume bs letter_ended (b ∷ []) fields_read_letter
      ∙ by_fields (λ fs. resumed (b ∷ []) 0 0 fs ≡ command_in ((b ∷ []) ∷ fs)) (λ f fs. rw (starts f)) bs

  -- a second byte in the letter's field
  letter_long : (c : ℕ) (bs : List ℕ) → eqb c 32 ≡ false
      → command_of (line_read (byte_read (Some lettered) c) bs) ≡ command_in (break_at false b (break_at false c (fields_of bs)))
  unfolding byte_read letter_read command_in break_at
  letter_long c bs other =
      rw other
      (dead bs
      ∙ by_fields (λ fs. None ≡ command_in (break_at false b (break_at false c fs))) (λ f fs. refl) bs)

  after_letter : (bs : List ℕ) → command_of (line_read (Some lettered) bs) ≡ command_in (break_at false b (fields_of bs))
  unfolding line_read fields_of break_at
  after_letter [] = letter_alone
  after_letter (c ∷ cs) = go (eqb c 32) refl
    where
      go : (test : Bool) → eqb c 32 ≡ test
          → command_of (line_read (byte_read (Some lettered) c) cs)
          ≡ command_in (break_at false b (break_at (eqb c 32) c (fields_of cs)))
      go true space = rw (space, eqb-true c 32 space) (letter_space cs)
      go false other = rw other (letter_long c cs other)

pub reads_commands : ReadsCommands
unfolding line_read fields_of break_at command_in command_of ended_field byte_read letter_read
reads_commands [] = refl
reads_commands (b ∷ bs) = go (eqb b 32) refl
  where
    go : (test : Bool) → eqb b 32 ≡ test
        → command_of (line_read (byte_read (Some fresh_line) b) bs) ≡ command_in (break_at (eqb b 32) b (fields_of bs))
    go true space = rw space (dead bs)
    go false other = rw other (after_letter b bs)
