-- The parts of an area by its fields: each part, and where it starts in a form.
use Rattle.std.specs.Prelude.{ℕ, suc, ◌+◌, ◌-◌, ◌*◌, ◌<◌, ◌≡◌, List, [], ◌∷◌, ◌++◌}
use Rattle.laws.proofs.Prelude.{refl, ap, ◌∙◌, arith}
use mathlib.Core.List.{append_assoc}
use native.Mathlib.Nat.{mul_comm}
use Rattle.area.specs.Prelude.{desk_size, record_count, list_size, stored_page_size}
use Rattle.mover.specs.Forms.{record_in, record_size_in}
use Rattle.mover.specs.Fields.{Field, number, words, repeated, record_fields, head_fields, area_fields}
use Rattle.mover.specs.Fields.{fields_size}
use Rattle.mover.proofs.FieldWords.{size_append, size_repeated, repeated_split}

-- list and pages
abbrev pub list_and_pages : ℕ → List Field
list_and_pages pages = words (list_size + stored_page_size * pages) ∷ []

-- all before the record of card k, and all behind it
abbrev pub ahead : ℕ → List Field
ahead k = head_fields ++ repeated k record_fields

abbrev pub rest : ℕ → ℕ → List Field
rest pages k = repeated (record_count - suc k) record_fields ++ list_and_pages pages

pub record_split : (pages k : ℕ) → k < record_count
    → area_fields pages ≡ ahead k ++ (number ∷ number ∷ words (2 * desk_size) ∷ rest pages k)
record_split pages k few =
    let count : record_count ≡ k + suc (record_count - suc k) = omega arith in
    ap (λ n. head_fields ++ (repeated n record_fields ++ list_and_pages pages)) count
    ∙ ap (λ fs. head_fields ++ (fs ++ list_and_pages pages)) (repeated_split (record_count - suc k) k record_fields)
    ∙ ap (λ fs. head_fields ++ fs)
    (append_assoc (repeated k record_fields) (record_fields ++ repeated (record_count - suc k) record_fields) (list_and_pages pages))

pub record_place : (form k : ℕ) → fields_size form (ahead k) ≡ record_in form k
record_place form k =
    let turns : k * (form + (form + (2 * desk_size + 0))) ≡ record_size_in form * k =
    mul_comm k (form + (form + (2 * desk_size + 0)))
    ∙ ap (λ n. n * k) (the_size form) in
    omega (arith, size_append form head_fields (repeated k record_fields), size_repeated form k record_fields, turns)
  where
    the_size : (form : ℕ) → form + (form + (2 * desk_size + 0)) ≡ record_size_in form
    the_size form = omega arith

pub list_split : (pages : ℕ) → area_fields pages ≡ ahead record_count ++ list_and_pages pages
list_split pages = refl
