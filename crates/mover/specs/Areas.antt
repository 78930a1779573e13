-- A card's area in two memories of different forms: the words that both have.
-- Assumes nothing: these are definitions.
use Rattle.std.specs.Prelude.{ℕ, ◌+◌, ◌*◌, ◌%◌, ◌<◌, ◌≡◌, List, Bool, true, false, cond, eqb}
use Rattle.directory.specs.declared.Directory.{Directory}
use Rattle.directory.specs.Directory.{is_live, next_live_of}
use Rattle.area.specs.Prelude.{load, load_run, load_number, desk_size, own_stamp, record_count, record_stamp, record_done}
use Rattle.area.specs.Prelude.{list_size, stored_page_size, area_size, Release, release_of}
use Rattle.mover.specs.Forms.{old_form, new_form, own_desk_in, open_flag_in, steps_made_in, release_number_in, release_desk_in}
use Rattle.mover.specs.Forms.{record_in, record_done_in, record_desks_in, list_start_in, page_in, area_size_in}

-- a word of card c's area in a form, and n words from an offset on
abbrev pub word_in : ℕ → ℕ → List ℕ → ℕ → ℕ → ℕ
word_in form pages m c offset = load (area_size_in form pages) m c offset

abbrev pub words_in : ℕ → ℕ → List ℕ → ℕ → ℕ → ℕ → List ℕ
words_in form pages m c offset n = load_run (area_size_in form pages) m c offset n

-- all but the high words: each has in the target what it has in the source
pub record SameArea (from to pages : ℕ) (source target : List ℕ) (c : ℕ) : Type 0 where
  pub at_own_stamp : word_in to pages target c own_stamp ≡ word_in from pages source c own_stamp
  pub at_own_desk : words_in to pages target c (own_desk_in to) desk_size ≡ words_in from pages source c (own_desk_in from) desk_size
  pub at_open_flag : word_in to pages target c (open_flag_in to) ≡ word_in from pages source c (open_flag_in from)
  pub at_steps_made : word_in to pages target c (steps_made_in to) ≡ word_in from pages source c (steps_made_in from)
  pub at_release_number :
      word_in to pages target c (release_number_in to) ≡ word_in from pages source c (release_number_in from)
  pub at_release_desk :
      words_in to pages target c (release_desk_in to) desk_size ≡ words_in from pages source c (release_desk_in from) desk_size
  -- the records of eight cards
  pub at_record_stamp :
      (k : ℕ) → k < record_count → word_in to pages target c (record_in to k) ≡ word_in from pages source c (record_in from k)
  pub at_record_done :
      (k : ℕ) → k < record_count
      → word_in to pages target c (record_done_in to k) ≡ word_in from pages source c (record_done_in from k)
  pub record_desks :
      (k : ℕ) → k < record_count
      → words_in to pages target c (record_desks_in to k) (2 * desk_size)
      ≡ words_in from pages source c (record_desks_in from k) (2 * desk_size)
  pub list : words_in to pages target c (list_start_in to) list_size ≡ words_in from pages source c (list_start_in from) list_size
  pub page :
      (p : ℕ) → p < pages
      → words_in to pages target c (page_in to p) stored_page_size ≡ words_in from pages source c (page_in from p) stored_page_size

-- the high words of an area in the new form are 0
pub record NoHighWords (pages : ℕ) (m : List ℕ) (c : ℕ) : Type 0 where
  pub at_own_stamp : word_in new_form pages m c (own_stamp + 1) ≡ 0
  pub at_release_number : word_in new_form pages m c (release_number_in new_form + 1) ≡ 0
  pub at_record_stamp : (k : ℕ) → k < record_count → word_in new_form pages m c (record_in new_form k + 1) ≡ 0
  pub at_record_done : (k : ℕ) → k < record_count → word_in new_form pages m c (record_done_in new_form k + 1) ≡ 0

-- the numbers of an area that refusal 20 looks at have in the old form, in one word, what they have in the new
pub record SameNumbers (pages : ℕ) (new old : List ℕ) (c : ℕ) : Type 0 where
  pub at_own_stamp : word_in old_form pages old c own_stamp ≡ load_number (area_size pages) new c own_stamp
  pub at_record_stamp :
      (k : ℕ) → k < record_count
      → word_in old_form pages old c (record_in old_form k) ≡ load_number (area_size pages) new c (record_stamp k)
  pub at_record_done :
      (k : ℕ) → k < record_count
      → word_in old_form pages old c (record_done_in old_form k) ≡ load_number (area_size pages) new c (record_done k)

-- ---- what an area of the old form says, in which a number is one word (document 01)

-- own stamp and desk
abbrev pub old_own : Directory → List ℕ → ℕ → Release
old_own d m c =
    release_of (word_in old_form d.pages m c own_stamp)
    (words_in old_form d.pages m c (own_desk_in old_form) desk_size)

-- number and desk of the open release
abbrev pub old_open : Directory → List ℕ → ℕ → Release
old_open d m c =
    release_of (word_in old_form d.pages m c (release_number_in old_form))
    (words_in old_form d.pages m c (release_desk_in old_form) desk_size)

-- the record of card k: its stamp, and the desk by the stamp's evenness
abbrev pub old_recorded : Directory → List ℕ → ℕ → ℕ → Release
old_recorded d m holder k =
    let stamp : ℕ = word_in old_form d.pages m holder (record_in old_form k) in
    release_of stamp
    (words_in old_form d.pages m holder (record_desks_in old_form k + desk_size * (stamp % 2)) desk_size)

-- its stamp and done mark differ
abbrev pub old_under_way : Directory → List ℕ → ℕ → ℕ → Bool
old_under_way d m holder k =
    cond
    (eqb (word_in old_form d.pages m holder (record_in old_form k))
    (word_in old_form d.pages m holder (record_done_in old_form k)))
    false true

-- the own desk of a live card, or the desk that a dead card's record has on the next live card
abbrev pub old_desk : Directory → List ℕ → ℕ → List ℕ
old_desk d m c = cond (is_live d c) (old_own d m c).desk (old_recorded d m (next_live_of d c) c).desk
