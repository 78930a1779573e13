-- Fields and their words: fields that follow one another, fields repeated, and how many words they have.
use Rattle.std.specs.Prelude.{ℕ, zero, suc, ◌+◌, ◌-◌, ◌*◌, ◌≤◌, ◌≡◌, List, [], ◌∷◌, ◌++◌, length, take, drop, get_or}
use Rattle.laws.proofs.Prelude.{refl, sym, ap, ◌∙◌, arith}
use mathlib.Core.List.{append-nil, append_assoc}
use native.Mathlib.Nat.{zero-add}
use lib.ListN.{length-append, length-drop}
use lib.Seq.{drop-drop, length-take-le}
use Rattle.area.specs.Prelude.{zeros, record_count, list_size, stored_page_size}
use Rattle.area.proofs.Prelude.{length-zeros}
use Rattle.mover.specs.Forms.{area_size_in}
use Rattle.mover.specs.Fields.{Field, number, words, repeated, record_fields, area_fields, rack_fields, fields_size}
use Rattle.mover.specs.Fields.{moved}

-- ---- how many words

module _ (form : ℕ) where
  pub size_append : (fs gs : List Field) → fields_size form (fs ++ gs) ≡ fields_size form fs + fields_size form gs
  size_append [] gs = omega arith
  size_append (f ∷ fs) gs = omega (arith, size_append fs gs)

  pub size_repeated : (n : ℕ) (fs : List Field) → fields_size form (repeated n fs) ≡ n * fields_size form fs
  unfolding repeated
  size_repeated zero fs = omega arith
  size_repeated (suc n) fs = size_append fs (repeated n fs) ∙ omega (arith, size_repeated n fs)

-- an area and a rack have the words that their form says
pub area_fields_lem : (form pages : ℕ) → fields_size form (area_fields pages) ≡ area_size_in form pages
area_fields_lem form pages =
    let records = repeated record_count record_fields in
    let both = size_append form records (words (list_size + stored_page_size * pages) ∷ []) in
    omega (arith, both, size_repeated form record_count record_fields)

pub rack_fields_lem : (form cards pages : ℕ) → fields_size form (rack_fields cards pages) ≡ cards * area_size_in form pages
rack_fields_lem form cards pages =
    size_repeated form cards (area_fields pages) ∙ ap (λ size. cards * size) (area_fields_lem form pages)

-- once more, at the end
pub repeated_more : (n : ℕ) (fs : List Field) → repeated (suc n) fs ≡ repeated n fs ++ fs
unfolding repeated
repeated_more zero fs = append-nil fs
repeated_more (suc n) fs =
    ap (λ gs. fs ++ gs) (repeated_more n fs) ∙ sym (append_assoc fs (repeated n fs) fs)

-- a turn among others
pub repeated_split : (n k : ℕ) (fs : List Field) → repeated (k + suc n) fs ≡ repeated k fs ++ (fs ++ repeated n fs)
unfolding repeated
repeated_split n zero fs = rw zero-add
repeated_split n (suc k) fs =
    let more : suc k + suc n ≡ suc (k + suc n) = omega arith in
    rw more
    (ap (λ gs. fs ++ gs) (repeated_split n k fs) ∙ sym (append_assoc fs (repeated k fs) (fs ++ repeated n fs)))

-- ---- their words in another form

module _ (from to : ℕ) where
  -- fields that follow one another
  pub moved-append : (fs gs : List Field) (ws : List ℕ)
      → moved from to (fs ++ gs) ws ≡ moved from to fs ws ++ moved from to gs (drop (fields_size from fs) ws)
  unfolding moved
  moved-append [] gs ws = refl
  moved-append (number ∷ fs) gs ws =
      ap (λ vs. get_or ws 0 0 ∷ (zeros (to - 1) ++ vs))
      (moved-append fs gs (drop from ws) ∙ ap (λ vs. moved from to fs (drop from ws) ++ moved from to gs vs)
      (drop-drop (fields_size from fs) from ws))
      ∙ ap (λ vs. get_or ws 0 0 ∷ vs) (sym (append_assoc (zeros (to - 1)) (moved from to fs (drop from ws)) _))
  moved-append (words n ∷ fs) gs ws =
      ap (λ vs. take n ws ++ vs)
      (moved-append fs gs (drop n ws) ∙ ap (λ vs. moved from to fs (drop n ws) ++ moved from to gs vs)
      (drop-drop (fields_size from fs) n ws))
      ∙ sym (append_assoc (take n ws) (moved from to fs (drop n ws)) _)

  -- as many as the form says, where the source has as many as its form says
  pub length_moved : 1 ≤ to → (fs : List Field) (ws : List ℕ) → fields_size from fs ≤ length ws
      → length (moved from to fs ws) ≡ fields_size to fs
  unfolding moved
  length_moved some [] ws enough = refl
  length_moved some (number ∷ fs) ws enough =
      let rest = length_moved some fs (drop from ws) (simp length-drop (omega arith)) in
      simp length-append (omega (arith, rest, length-zeros (to - 1)))
  length_moved some (words n ∷ fs) ws enough =
      let rest = length_moved some fs (drop n ws) (simp length-drop (omega arith)) in
      simp length-append (omega (arith, rest, length-take-le n ws (omega arith)))
