-- What a move that passes check 1 keeps to: both memories have the length that their form says.
use Rattle.std.specs.Prelude.{ℕ, ◌*◌, ◌≡◌, false, eqb}
use Rattle.laws.proofs.Prelude.{sym, ◌∙◌, ap, eqb-true, not-false, arith}
use Rattle.laws.proofs.Bools.{neither}
use Rattle.directory.specs.declared.Header.{Header}
use Rattle.area.specs.Prelude.{area_size, MemoryOf}
use Rattle.protocol.specs.Checks.{outside_limits}
use Rattle.protocol.proofs.checks.Limits.{Within, within_limits}
use Rattle.mover.specs.declared.forms.Form.{Form}
use Rattle.mover.specs.declared.forms.Form.TheVariants.{Old, New}
use Rattle.mover.specs.Forms.{old_form, new_form, width, area_size_in, places_in, MemoryBy}
use Rattle.mover.specs.Fields.{rack_fields, fields_size}
use Rattle.mover.specs.Move.{outside_limits_of}
use Rattle.mover.specs.Moving.{words_of}
use Rattle.mover.proofs.FieldWords.{rack_fields_lem}

-- the new form is that of the layout
pub new_size : (pages : ℕ) → area_size_in new_form pages ≡ area_size pages
new_size pages = omega arith

module _ (old new cards pages : ℕ) (inside : outside_limits_of old new cards pages ≡ false) where
  pub new_within : Within new cards pages
  new_within = within_limits new cards pages (neither (outside_limits new cards pages) _ inside).0

  pub old_length : old ≡ cards * area_size_in old_form pages
  old_length = eqb-true _ _ (not-false (eqb old _) (neither (outside_limits new cards pages) _ inside).1)

  pub new_length : new ≡ cards * area_size_in new_form pages
  new_length = new_within.whole ∙ ap (λ size. cards * size) (sym (new_size pages))

  -- and the words of their fields
  pub old_fields : old ≡ fields_size old_form (rack_fields cards pages)
  old_fields = old_length ∙ sym (rack_fields_lem old_form cards pages)

  pub new_fields : new ≡ fields_size new_form (rack_fields cards pages)
  new_fields = new_length ∙ sym (rack_fields_lem new_form cards pages)

module _ (h : Header) (old new : ℕ) (inside : outside_limits_of old new h.cards h.pages ≡ false) where
  old_source : MemoryBy (places_in old_form h.pages) h old
  old_source =
      let within = new_within old new h.cards h.pages inside in (
        within.cards_most,
        within.pages_most,
        old_length old new h.cards h.pages inside,
        (omega arith, omega arith, omega arith),
      )

  pub new_memory : MemoryOf h new
  new_memory =
      let within = new_within old new h.cards h.pages inside in
      (within.cards_most, within.pages_most, within.whole)

  new_source : MemoryBy (places_in new_form h.pages) h new
  new_source =
      let within = new_within old new h.cards h.pages inside in (
        within.cards_most,
        within.pages_most,
        new_length old new h.cards h.pages inside,
        (omega arith, omega arith, omega arith),
      )

-- the memory that is moved from has its places
pub source_fits : (from : Form) (h : Header) (old new words : ℕ) → words ≡ words_of from old new
    → outside_limits_of old new h.cards h.pages ≡ false → MemoryBy (places_in (width from) h.pages) h words
source_fits Old h old new words is inside = rw is (old_source h old new inside)
source_fits New h old new words is inside = rw is (new_source h old new inside)
