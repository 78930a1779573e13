-- Rests on `moved_whole`: each memory has the length of its fields.
use mathlib.Core.Path.{◌≡◌, refl, sym, ◌∙◌}
use borrow.Author.Rules.{rules}
use Rattle.mover.specs.Forms.{width}
use Rattle.mover.specs.Fields.{rack_fields, moved}
use Rattle.mover.proofs.Turns.{moved_whole}
use Rattle.mover.proofs.fields.move_memory.Goals as goal

pub returns : goal.returns
returns c =
    let a = c.args in
    -- it is the caller's memory that was written
    let same_target = sym c.rack.ensures.target in
    let whole
    : c.rack.new.self.target.now
    ≡ moved (width a.from) (width c.other.result) (rack_fields a.cards a.pages) a.source.now =
    moved_whole refl refl c.requires.0 (rw c.other.ensures c.requires.1) c.rack.ensures in
    search rules ∙ rw c.other.ensures at whole
