-- The two forms of a rack's memory: document 01's, in which a number is one word, and that of document 02, request 5, in
-- which it is two. A form is named by the words of a number. Where things stand follows from it, in the "same order";
-- in the new form it is the table of `area`, specs/Layout.antt (`NewFormIsLayout`).
-- Assumes nothing: these are definitions.
use Rattle.std.specs.Prelude.{ℕ, ◌+◌, ◌*◌, ◌<◌, ◌≤◌, ◌≡◌}
use Rattle.directory.specs.declared.Header.{Header}
use Rattle.area.specs.Prelude.{number_size, desk_size, record_count, list_size, stored_page_size}
use Rattle.mover.specs.declared.forms.Form.{Form}
use Rattle.mover.specs.declared.forms.Form.TheVariants.{Old, New}
use Rattle.mover.specs.declared.forms.Places.{Places}

abbrev pub old_form : ℕ
old_form = 1

abbrev pub new_form : ℕ
new_form = number_size

-- the words of a number in a form that the code names
abbrev pub width : Form → ℕ
width Old = old_form
width New = new_form

abbrev pub other : Form → Form
other Old = New
other New = Old

-- ---- a card's area in a form; the own stamp is its first word

abbrev pub own_desk_in : ℕ → ℕ
own_desk_in form = form

abbrev pub open_flag_in : ℕ → ℕ
open_flag_in form = own_desk_in form + desk_size

abbrev pub steps_made_in : ℕ → ℕ
steps_made_in form = open_flag_in form + 1

abbrev pub release_number_in : ℕ → ℕ
release_number_in form = steps_made_in form + 1

abbrev pub release_desk_in : ℕ → ℕ
release_desk_in form = release_number_in form + form

abbrev pub records_start_in : ℕ → ℕ
records_start_in form = release_desk_in form + desk_size

-- the record of card c, which starts with its stamp
abbrev pub record_size_in : ℕ → ℕ
record_size_in form = 2 * form + 2 * desk_size

abbrev pub record_in : ℕ → ℕ → ℕ
record_in form c = records_start_in form + record_size_in form * c

abbrev pub record_done_in : ℕ → ℕ → ℕ
record_done_in form c = record_in form c + form

-- both desks, the even one first
abbrev pub record_desks_in : ℕ → ℕ → ℕ
record_desks_in form c = record_in form c + 2 * form

abbrev pub list_start_in : ℕ → ℕ
list_start_in form = record_in form record_count

abbrev pub page_in : ℕ → ℕ → ℕ
page_in form p = list_start_in form + list_size + stored_page_size * p

abbrev pub area_size_in : ℕ → ℕ → ℕ
area_size_in form pages = page_in form pages

-- what checks 2 and 15 read of an area
abbrev pub places_in : ℕ → ℕ → Places
places_in form pages =
    record {
      size = area_size_in form pages;
      flag = open_flag_in form;
      steps = steps_made_in form;
      list = list_start_in form;
    }

-- ---- inner contracts only

-- the places lie in an area
abbrev pub PlacesIn : Places → Type 0
PlacesIn at = (at.flag < at.size) × (at.steps < at.size) × (at.list + list_size ≤ at.size)

-- so many words are the memory of a rack with this header in a form that has these places, and it has no more cards and
-- pages than a rack can have
abbrev pub MemoryBy : Places → Header → ℕ → Type 0
MemoryBy at h words = (h.cards ≤ 8) × (h.pages ≤ 64) × (words ≡ h.cards * at.size) × PlacesIn at
