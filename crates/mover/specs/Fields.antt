-- A rack's memory as fields, one after the other: numbers, which have as many words as the form says, and words that
-- are the same in each form.
-- Assumes nothing: these are definitions.
use Rattle.std.specs.Prelude.{ℕ, zero, suc, ◌+◌, ◌-◌, ◌*◌, List, [], ◌∷◌, ◌++◌, get_or, take, drop}
use Rattle.area.specs.Prelude.{zeros, desk_size, record_count, list_size, stored_page_size}

pub data Field : Type 0 where
  number : Field
  words : (n : ℕ) → Field

-- fields so many times
unfoldable pub repeated : ℕ → List Field → List Field
repeated zero fs = []
repeated (suc n) fs = fs ++ repeated n fs

-- stamp, done mark, both desks
abbrev pub record_fields : List Field
record_fields = number ∷ number ∷ words (2 * desk_size) ∷ []

-- own stamp; own desk, release open, steps made; the open release's number; its desk
abbrev pub head_fields : List Field
head_fields = number ∷ words (desk_size + 2) ∷ number ∷ words desk_size ∷ []

-- the records of eight cards; list and pages
abbrev pub tail_fields : ℕ → List Field
tail_fields pages = repeated record_count record_fields ++ words (list_size + stored_page_size * pages) ∷ []

abbrev pub area_fields : ℕ → List Field
area_fields pages = head_fields ++ tail_fields pages

abbrev pub rack_fields : ℕ → ℕ → List Field
rack_fields cards pages = repeated cards (area_fields pages)

-- the words that fields take in a form
abbrev pub field_size : ℕ → Field → ℕ
field_size form number = form
field_size form (words n) = n

abbrev pub fields_size : ℕ → List Field → ℕ
fields_size form [] = 0
fields_size form (f ∷ fs) = field_size form f + fields_size form fs

-- The words of fields in the form `to`, by their words ws in the form `from`. Of a number the low word, which stands
-- first, is kept: "going in, every high word is 0", going back it is dropped. Words past the fields are not looked at.
unfoldable pub moved : ℕ → ℕ → List Field → List ℕ → List ℕ
moved from to [] ws = []
moved from to (number ∷ fs) ws = get_or ws 0 0 ∷ (zeros (to - 1) ++ moved from to fs (drop from ws))
moved from to (words n ∷ fs) ws = take n ws ++ moved from to fs (drop n ws)
