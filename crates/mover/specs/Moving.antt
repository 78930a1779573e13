-- Inner contracts only. Fields moved from one memory into another. A move from either form.
use Rattle.std.specs.Prelude.{ℕ, ◌+◌, ◌≤◌, ◌≡◌, List, length, drop}
use Rattle.std.proofs.lemmas.List.Edits.{sets}
use Rattle.directory.specs.declared.Directory.{Directory}
use Rattle.protocol.specs.Checks.{Check}
use Rattle.protocol.specs.Result.{Result}
use Rattle.mover.specs.declared.forms.Form.{Form}
use Rattle.mover.specs.declared.forms.Form.TheVariants.{Old, New}
use Rattle.mover.specs.declared.fields.Mover.{Mover}
use Rattle.mover.specs.Forms.{width, other}
use Rattle.mover.specs.Fields.{Field, rack_fields, fields_size, moved}
use Rattle.mover.specs.Move.{move_in_checks, move_back_checks, move_in, move_back}

-- both memories have room for the fields that are moved next
pub record Room (fs : List Field) (m : Mover) : Type 0 where
  pub source : m.read + fields_size (width m.from) fs ≤ length m.source.now
  pub target : m.written + fields_size (width m.to) fs ≤ length m.target.now

-- from one mover to the other these fields are moved: those that stand in the source behind the words read are stored
-- in the target behind the words written
pub record Moved (fs : List Field) (m m' : Mover) : Type 0 where
  pub source : m'.source ≡ m.source
  pub from : m'.from ≡ m.from
  pub to : m'.to ≡ m.to
  pub target : m'.target.ghost_name ≡ m.target.ghost_name
  pub read : m'.read ≡ m.read + fields_size (width m.from) fs
  pub written : m'.written ≡ m.written + fields_size (width m.to) fs
  pub words :
      m'.target.now
      ≡ sets m.target.now m.written (moved (width m.from) (width m.to) fs (drop m.read m.source.now))

-- so many words are the memories of a rack, the source and the target
abbrev pub RackMemories : Form → ℕ → ℕ → ℕ → ℕ → Type 0
RackMemories from cards pages source target =
    (source ≡ fields_size (width from) (rack_fields cards pages))
    × (target ≡ fields_size (width (other from)) (rack_fields cards pages))

-- of the lengths of two memories, that of the form
abbrev pub words_of : Form → ℕ → ℕ → ℕ
words_of Old old new = old
words_of New old new = new

-- ---- both ways: a move from a form

abbrev pub checks_from : Form → Directory → List ℕ → List ℕ → List Check
checks_from Old d source target = move_in_checks d source target
checks_from New d source target = move_back_checks d source target

abbrev pub move_from : Form → Directory → List ℕ → List ℕ → Result
move_from Old d source target = move_in d source target
move_from New d source target = move_back d source target
