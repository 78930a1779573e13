-- The words of a card's area, moved from one form to another: all but the high words are kept, and these are 0.
use Rattle.std.specs.Prelude.{ℕ, ◌+◌, ◌*◌, ◌<◌, ◌≤◌, ◌≡◌, List, [], ◌∷◌, ◌++◌, suc, length}
use Rattle.laws.proofs.Prelude.{refl, sym, ap, ◌∙◌, arith}
use mathlib.Core.List.{append_assoc}
use native.Mathlib.Nat.{mul-le-mul, mul-suc}
use Rattle.memory.proofs.Index.{area_in}
use Rattle.area.specs.Prelude.{load, load_run, desk_size, record_count, list_size, stored_page_size}
use Rattle.area.proofs.Prelude.{get_or-load_run, length-load_run, load_run_is}
use Rattle.mover.specs.Forms.{new_form, area_size_in, record_size_in, record_done_in, own_desk_in}
use Rattle.mover.specs.Forms.{release_desk_in, record_desks_in, list_start_in, page_in}
use Rattle.mover.specs.Fields.{Field, number, words, area_fields, rack_fields, fields_size, moved}
use Rattle.mover.specs.Areas.{SameArea, NoHighWords}
use Rattle.mover.proofs.FieldWords.{size_append, rack_fields_lem, length_moved}
use Rattle.mover.proofs.Reading.{number_at, word_at, high_at}
use Rattle.mover.proofs.Parts.{ahead, rest, record_split, record_place, list_split}

module _ (from to cards pages : ℕ) (ws : List ℕ) (some : 1 ≤ to) (long : length ws ≡ cards * area_size_in from pages)
    (c : ℕ) (real : c < cards) where
  abbrev target : List ℕ
  target = moved from to (rack_fields cards pages) ws

  length_target : length target ≡ cards * area_size_in to pages
  length_target =
      length_moved from to some (rack_fields cards pages) ws (omega (arith, long, rack_fields_lem from cards pages))
      ∙ rack_fields_lem to cards pages

  -- words that follow one another
  run_at : (o o' n : ℕ) → o + n ≤ area_size_in to pages → o' + n ≤ area_size_in from pages
      → ((j : ℕ) → j < n
      → load (area_size_in to pages) target c (o + j) ≡ load (area_size_in from pages) ws c (o' + j))
      → load_run (area_size_in to pages) target c o n ≡ load_run (area_size_in from pages) ws c o' n
  run_at o o' n fits fits' same =
      let source = area_in _ real long in
      load_run_is (area_size_in to pages) target c o n (load_run (area_size_in from pages) ws c o' n)
      (length-load_run (area_size_in from pages) ws c o' n source fits') (area_in _ real length_target) fits
      (λ j within. same j within ∙ sym (get_or-load_run (area_size_in from pages) ws c o' n j within))

  -- ---- the fields of the area, by what stands before them

  abbrev number_in : (pre post : List Field) → area_fields pages ≡ pre ++ (number ∷ post) → (o o' : ℕ)
      → o ≡ fields_size to pre → o' ≡ fields_size from pre
      → load (area_size_in to pages) target c o ≡ load (area_size_in from pages) ws c o'
  number_in pre post split =
      number_at from to cards pages ws some long c real pre (number ∷ post) split post refl

  abbrev word_in : (pre : List Field) (n : ℕ) (post : List Field) → area_fields pages ≡ pre ++ (words n ∷ post) → (j : ℕ)
      → j < n → (o o' : ℕ) → o ≡ fields_size to pre + j → o' ≡ fields_size from pre + j
      → load (area_size_in to pages) target c o ≡ load (area_size_in from pages) ws c o'
  word_in pre n post split =
      word_at from to cards pages ws some long c real pre (words n ∷ post) split n post refl

  abbrev own_words : (j : ℕ) → j < desk_size + 2 → (o o' : ℕ) → o ≡ to + j → o' ≡ from + j
      → load (area_size_in to pages) target c o ≡ load (area_size_in from pages) ws c o'
  own_words j within o o' there here =
      word_in (number ∷ []) (desk_size + 2) _ refl j within o o' (omega arith) (omega arith)

  -- behind the stamp of a record, and behind both its numbers
  done_split : (k : ℕ) → k < record_count
      → area_fields pages ≡ (ahead k ++ number ∷ []) ++ (number ∷ words (2 * desk_size) ∷ rest pages k)
  done_split k few =
      record_split pages k few
      ∙ sym (append_assoc (ahead k) (number ∷ []) (number ∷ words (2 * desk_size) ∷ rest pages k))

  desks_split : (k : ℕ) → k < record_count
      → area_fields pages ≡ (ahead k ++ number ∷ number ∷ []) ++ (words (2 * desk_size) ∷ rest pages k)
  desks_split k few =
      record_split pages k few
      ∙ sym (append_assoc (ahead k) (number ∷ number ∷ []) (words (2 * desk_size) ∷ rest pages k))

  done_place : (form k : ℕ) → record_done_in form k ≡ fields_size form (ahead k ++ number ∷ [])
  done_place form k = omega (arith, size_append form (ahead k) (number ∷ []), record_place form k)

  desks_place : (form k : ℕ) → record_desks_in form k ≡ fields_size form (ahead k ++ number ∷ number ∷ [])
  desks_place form k = omega (arith, size_append form (ahead k) (number ∷ number ∷ []), record_place form k)

  -- words of the list and the pages
  list_word : (j : ℕ) → j < list_size + stored_page_size * pages → (o o' : ℕ) → o ≡ list_start_in to + j
      → o' ≡ list_start_in from + j → load (area_size_in to pages) target c o ≡ load (area_size_in from pages) ws c o'
  list_word j within o o' there here =
      word_in (ahead record_count) (list_size + stored_page_size * pages) [] (list_split pages) j within o o'
      (omega (arith, there, record_place to record_count)) (omega (arith, here, record_place from record_count))

  -- ---- all of it

  record_fits : (form k n : ℕ) → k < record_count → n ≤ 2 * desk_size → record_desks_in form k + n ≤ area_size_in form pages
  record_fits form k n few short =
      let turns : record_size_in form * suc k ≤ record_size_in form * record_count = mul-le-mul same few in
      omega (arith, turns, mul-suc (record_size_in form) k)
    where
      same : record_size_in form ≤ record_size_in form
      same = omega arith

  pub same_area : SameArea from to pages ws target c
  same_area =
      record {
        at_own_stamp = number_in [] _ refl _ _ refl refl;
        at_own_desk = run_at (own_desk_in to) (own_desk_in from) desk_size (omega arith) (omega arith)
            (λ j within. own_words j (omega arith) _ _ refl refl);
        at_open_flag = own_words desk_size (omega arith) _ _ refl refl;
        at_steps_made = own_words (desk_size + 1) (omega arith) _ _ (omega arith) (omega arith);
        at_release_number = number_in (number ∷ words (desk_size + 2) ∷ []) _ refl _ _ (omega arith) (omega arith);
        at_release_desk = run_at (release_desk_in to) (release_desk_in from) desk_size (omega arith) (omega arith)
            (λ j within.
            word_in (number ∷ words (desk_size + 2) ∷ number ∷ []) desk_size _ refl j within _ _ (omega arith)
            (omega arith));
        at_record_stamp = λ k few.
            number_in (ahead k) _ (record_split pages k few) _ _ (sym (record_place to k)) (sym (record_place from k));
        at_record_done = λ k few. number_in (ahead k ++ number ∷ []) _ (done_split k few) _ _ (done_place to k)
            (done_place from k);
        record_desks = λ k few.
            run_at (record_desks_in to k) (record_desks_in from k) (2 * desk_size)
            (record_fits to k (2 * desk_size) few (omega arith)) (record_fits from k (2 * desk_size) few (omega arith))
            (λ j within.
            word_in (ahead k ++ number ∷ number ∷ []) (2 * desk_size) _ (desks_split k few) j within _ _
            (ap (λ i. i + j) (desks_place to k)) (ap (λ i. i + j) (desks_place from k)));
        list = run_at (list_start_in to) (list_start_in from) list_size (omega arith) (omega arith)
            (λ j within. list_word j (omega arith) _ _ refl refl);
        page = λ p few.
            run_at (page_in to p) (page_in from p) stored_page_size (omega arith) (omega arith)
            (λ j within.
            list_word (list_size + stored_page_size * p + j) (omega arith) _ _ (omega arith) (omega arith));
      }

-- "Going in, every high word is 0"
module _ (from cards pages : ℕ) (ws : List ℕ) (long : length ws ≡ cards * area_size_in from pages) (c : ℕ)
    (real : c < cards) where
  high_in : (pre post : List Field) → area_fields pages ≡ pre ++ (number ∷ post) → (o : ℕ)
      → o ≡ fields_size new_form pre + 1
      → load (area_size_in new_form pages) (moved from new_form (rack_fields cards pages) ws) c o ≡ 0
  high_in pre post split =
      high_at from new_form cards pages ws (omega arith) long c real pre (number ∷ post) split refl post refl

  pub high_words : NoHighWords pages (moved from new_form (rack_fields cards pages) ws) c
  high_words =
      record {
        at_own_stamp = high_in [] _ refl _ refl;
        at_release_number = high_in (number ∷ words (desk_size + 2) ∷ []) _ refl _ refl;
        at_record_stamp = λ k few.
            high_in (ahead k) _ (record_split pages k few) _ (omega (arith, record_place new_form k));
        at_record_done = λ k few.
            high_in (ahead k ++ number ∷ []) _
            (done_split from new_form cards pages ws (omega arith) long c real k few) _
            (omega (arith, done_place from new_form cards pages ws (omega arith) long c real new_form k));
      }
