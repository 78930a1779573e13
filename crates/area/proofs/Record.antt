-- Records in a card's area: what one tells, the words of a settled one, and that one written changes nothing else.
use Rattle.std.specs.Prelude.{ℕ, ◌+◌, ◌*◌, ◌%◌, ◌≤◌, ◌<◌, ◌≡◌, ◌≢◌, ◌⊎◌, List, ◌++◌, Bool, true, false, cond, length}
use Rattle.std.specs.Prelude.{get_or, eqb}
use Rattle.laws.proofs.Prelude.{refl, sym, ap, ◌∙◌, true≢false, false≢true, arith, eq-eqb, eqb-true, eqb-false}
use lib.ListN.{length-append, get_or-append}
use Rattle.laws.proofs.Lists.{get_or_right}
use Rattle.memory.specs.Words.{AreaIn, load, zeros}
use Rattle.memory.proofs.Index.{outside_fewer}
use Rattle.memory.proofs.Runs.{length-zeros, load_run_is, length-store_run, load-store_run_outside}
use Rattle.memory.proofs.Runs.{load-store_run_inside}
use Rattle.area.specs.Layout.{number_size, desk_size, record_at, record_stamp, record_desk, record_done, desk_in_record}
use Rattle.area.specs.Layout.{record_size, pages_start}
use Rattle.area.specs.Numbers.{number_words, load_number}
use Rattle.area.specs.Releases.{Release}
use Rattle.area.specs.Record.{recorded_release, under_way, settled_record, write_record}
use Rattle.area.proofs.NumberWords.{length_number}
use Rattle.area.proofs.Regions.{NotIn, record_region, outside}

-- ---- what a record tells

-- its stamp and the desk of the stamp's evenness
pub recorded_is : (size : ℕ) (m : List ℕ) (holder c : ℕ) (r : Release) → AreaIn (length m) size holder
    → pages_start ≤ size → c < 8 → length r.desk ≡ desk_size → load_number size m holder (record_stamp c) ≡ r.number
    → ((j : ℕ) → j < desk_size → load size m holder (record_desk c r.number + j) ≡ get_or r.desk j 0)
    → recorded_release size m holder c ≡ r
unfolding recorded_release
recorded_is size m holder c r area long few eight stamped desked =
    rw (
      stamped,
      load_run_is size m holder (record_desk c r.number) desk_size r.desk eight area (omega arith) desked,
    )

module _ (size : ℕ) (m : List ℕ) (holder c : ℕ) where
  abbrev stamp : ℕ
  stamp = load_number size m holder (record_stamp c)

  abbrev done : ℕ
  done = load_number size m holder (record_done c)

  pub under_way_yes : under_way size m holder c ≡ true → stamp ≢ done
  unfolding under_way
  under_way_yes is same =
      false≢true (sym (ap (λ (agree : Bool). cond agree false true) (eq-eqb stamp done same)) ∙ is)

  pub under_way_no : under_way size m holder c ≡ false → stamp ≡ done
  unfolding under_way
  under_way_no is = go (eqb stamp done) refl is
    where
      go : (agree : Bool) → eqb stamp done ≡ agree → cond agree false true ≡ false → stamp ≡ done
      go true agree is = eqb-true stamp done agree
      go false differ is = absurd (true≢false is)

-- ---- the words of a settled record

module _ (r : Release) (eight : length r.desk ≡ desk_size) where
  abbrev desks : Bool → List ℕ
  desks even = cond even (r.desk ++ zeros desk_size) (zeros desk_size ++ r.desk)

  length_desks : (even : Bool) → length (desks even) ≡ 2 * desk_size
  length_desks true = simp length-append (omega (arith, length-zeros desk_size))
  length_desks false = simp length-append (omega (arith, length-zeros desk_size))

  length_settled : length (settled_record r) ≡ record_size
  unfolding settled_record
  length_settled = simp length-append (omega (arith, length_number r.number, length_desks (eqb (r.number % 2) 0)))

  pub settled_stamp : (j : ℕ) → j < number_size → get_or (settled_record r) j 0 ≡ get_or (number_words r.number) j 0
  unfolding settled_record
  settled_stamp j within = get_or-append (number_words r.number) _ 0 j (omega (arith, length_number r.number))

  pub settled_done : (j : ℕ) → j < number_size
      → get_or (settled_record r) (number_size + j) 0 ≡ get_or (number_words r.number) j 0
  unfolding settled_record
  settled_done j within =
      get_or_right 0 (number_words r.number) _ number_size (number_size + j) j (length_number r.number) refl
      ∙ get_or-append (number_words r.number) _ 0 j (omega (arith, length_number r.number))

  -- the desk stands by the number's evenness
  pub settled_desk : (j : ℕ) → j < desk_size
      → get_or (settled_record r) (desk_in_record r.number + j) 0 ≡ get_or r.desk j 0
  unfolding settled_record
  settled_desk j within =
      get_or_right 0 (number_words r.number) _ number_size _ (number_size + place) (length_number r.number)
      (omega arith)
      ∙ get_or_right 0 (number_words r.number) _ number_size _ place (length_number r.number) refl
      ∙ go (eqb (r.number % 2) 0) refl
    where
      place : ℕ
      place = desk_size * (r.number % 2) + j

      go : (even : Bool) → eqb (r.number % 2) 0 ≡ even → get_or (desks even) place 0 ≡ get_or r.desk j 0
      go true even =
          let here : place ≡ j = omega (arith, eqb-true (r.number % 2) 0 even) in
          rw here (get_or-append r.desk (zeros desk_size) 0 j (omega arith))
      go false odd =
          get_or_right 0 (zeros desk_size) r.desk desk_size place j (length-zeros desk_size)
          (omega (arith, eqb-false (r.number % 2) 0 odd))

-- ---- a record written

module _ (size : ℕ) (m : List ℕ) (holder c : ℕ) (r : Release) (long : pages_start ≤ size) (few : c < 8)
    (eight : length r.desk ≡ desk_size) where
  pub length_record : length (write_record size m holder c r) ≡ length m
  unfolding write_record
  length_record = length-store_run size m holder (record_at c) (settled_record r)

  -- every other word
  pub load_beside_record : (h o : ℕ) → o < size → (h ≢ holder) ⊎ NotIn (record_region c) o
      → load size (write_record size m holder c r) h o ≡ load size m h o
  unfolding write_record
  load_beside_record h o inside apart =
      load-store_run_outside size m holder (record_at c) (settled_record r) h o
      (outside_fewer (omega (arith, length_settled r eight))
      (outside (record_region c) apart (λ not. not) (omega arith) inside))

  pub record_word : AreaIn (length m) size holder → (i : ℕ) → i < record_size
      → load size (write_record size m holder c r) holder (record_at c + i) ≡ get_or (settled_record r) i 0
  unfolding write_record
  record_word area i within =
      let whole = length_settled r eight in
      load-store_run_inside size m holder (record_at c) (settled_record r) area (omega arith) i (omega arith)
