-- The area of a card that joins: its own stamp and desk, and the records that are copied to it. No other
-- card's word changes.
use Rattle.std.specs.Prelude.{ℕ, zero, suc, ◌+◌, ◌-◌, ◌≤◌, ◌<◌, ◌≡◌, ◌≢◌, ◌⊎◌, List, Bool, true, false, cond, not, ◌&&◌}
use Rattle.std.specs.Prelude.{length, get_or, eqb}
use Rattle.laws.proofs.Prelude.{refl, sym, ◌∙◌, inl, inr, true≢false, arith, ℕ_discrete, ne_eqb}
use native.Mathlib.Nat.{zero-add}
use lib.ListN.{length-append}
use Rattle.laws.specs.Search.{in_turn}
use Rattle.directory.specs.declared.Directory.{Directory}
use Rattle.directory.specs.Directory.{is_live, next_live_of}
use Rattle.area.specs.Prelude.{AreaIn, load, clear_run, copy_run, record_at, desk_size, own_stamp, record_size, own_size}
use Rattle.area.specs.Prelude.{open_flag, records_start, Release, own_release, release_words, recorded_release}
use Rattle.area.proofs.Prelude.{outside_other_card, outside_above, length-store_run, length_clear_run, length_copy_run}
use Rattle.area.proofs.Prelude.{load-store_run_outside, load-store_run_inside, load_clear_run_outside}
use Rattle.area.proofs.Prelude.{load_clear_run_inside, load_copy_run_outside, load_copy_run_inside, outside, In, NotIn}
use Rattle.area.proofs.Prelude.{record_region, records_apart, length_number, number_read, desk_read}
use Rattle.protocol.specs.Release.{size_of}
use Rattle.protocol.specs.Join.{reset_area, copy_dead_record}
use Rattle.protocol.proofs.release.Shape.{Shape, area_of, area_of_live, shape_kept}

-- ---- the area reset

module _ (d : Directory) (x : ℕ) (m : List ℕ) (shape : Shape d m) (real : x < d.cards)
    (eight : length (recorded_release (size_of d) m (next_live_of d x) x).desk ≡ desk_size) where
  abbrev r : Release
  r = recorded_release (size_of d) m (next_live_of d x) x

  abbrev cleared : List ℕ
  cleared = clear_run (size_of d) m x 0 (size_of d)

  area : AreaIn (length m) (size_of d) x
  area = area_of shape x real

  pub length_reset : length (reset_area d x m) ≡ length m
  unfolding reset_area
  length_reset = length-store_run (size_of d) _ x own_stamp _ ∙ length_clear_run (size_of d) m x 0 (size_of d)

  length_own : length (release_words r) ≡ own_size
  length_own = simp length-append (omega (arith, length_number r.number))

  pub reset_other : (h o : ℕ) → h ≢ x → o < size_of d → load (size_of d) (reset_area d x m) h o ≡ load (size_of d) m h o
  unfolding reset_area
  reset_other h o other inside =
      load-store_run_outside (size_of d) cleared x own_stamp (release_words r) h o
      (outside_other_card other (omega (arith, length_own)) inside)
      ∙ load_clear_run_outside (size_of d) m x 0 (size_of d) h o (outside_other_card other (omega arith) inside)

  pub reset_zero : (o : ℕ) → open_flag ≤ o → o < size_of d → load (size_of d) (reset_area d x m) x o ≡ 0
  unfolding reset_area
  reset_zero o above inside =
      load-store_run_outside (size_of d) cleared x own_stamp (release_words r) x o
      (outside_above (omega (arith, length_own)) inside)
      ∙ (rw (zero-add o) at (load_clear_run_inside (size_of d) m x 0 (size_of d) area (omega arith) o inside))

  reset_word : (j : ℕ) → j < own_size
      → load (size_of d) (reset_area d x m) x (own_stamp + j) ≡ get_or (release_words r) j 0
  unfolding reset_area
  reset_word j within =
      load-store_run_inside (size_of d) cleared x own_stamp (release_words r) (rw length_clear_run area)
      (omega (arith, length_own)) j (omega (arith, length_own))

  pub reset_own : own_release (size_of d) (reset_area d x m) x ≡ r
  unfolding own_release
  reset_own =
      rw (
        number_read (size_of d) (reset_area d x m) x own_stamp r eight (rw length_reset area) (omega arith) reset_word,
        desk_read (size_of d) (reset_area d x m) x own_stamp r eight (rw length_reset area) (omega arith) reset_word,
      )

-- ---- the records of other dead cards

pub record CopiedBelow (d : Directory) (x n : ℕ) (m m' : List ℕ) : Type 0 where
  pub same_length : length m' ≡ length m
  pub other_card : (h o : ℕ) → h ≢ x → o < size_of d → load (size_of d) m' h o ≡ load (size_of d) m h o
  pub low : (o : ℕ) → o < records_start → load (size_of d) m' x o ≡ load (size_of d) m x o
  pub copied : (g o : ℕ) → g < n → g < 8 → is_live d g ≡ false → g ≢ x → In (record_region g) o
      → load (size_of d) m' x o ≡ load (size_of d) m (next_live_of d g) o

module _ (d : Directory) (x : ℕ) (m : List ℕ) (shape : Shape d m) (real : x < d.cards) (dead : is_live d x ≡ false)
    (nexts : (g : ℕ) → is_live d (next_live_of d g) ≡ true) where
  not_x : (h : ℕ) → is_live d h ≡ true → h ≢ x
  not_x h live same = true≢false (sym live ∙ rw same dead)

  copied_more : (n : ℕ) (m' : List ℕ) → n < d.cards → CopiedBelow d x n m m'
      → CopiedBelow d x (suc n) m (copy_dead_record d x n m')
  unfolding copy_dead_record
  copied_more n m' less below = go (not (is_live d n) && not (eqb n x)) refl
    where
      few : n < 8
      few = omega (arith, less, shape.few_cards)

      shape' : Shape d m'
      shape' = shape_kept shape m' below.same_length

      copied_over : List ℕ
      copied_over = copy_run (size_of d) m' (next_live_of d n) (record_at n) x (record_at n) record_size

      elsewhere : (h o : ℕ) → o < size_of d → (h ≢ x) ⊎ NotIn (record_region n) o
          → load (size_of d) copied_over h o ≡ load (size_of d) m' h o
      elsewhere h o inside apart =
          load_copy_run_outside (size_of d) m' _ _ x (record_at n) record_size h o
          (outside (record_region n) apart (λ not. not) (omega (arith, few)) inside)

      go : (copies : Bool) → not (is_live d n) && not (eqb n x) ≡ copies
          → CopiedBelow d x (suc n) m
          (cond copies copied_over m')
      go true both =
          record {
            same_length = length_copy_run (size_of d) m' _ _ _ _ record_size ∙ below.same_length;
            other_card = λ h o other inside. elsewhere h o inside (inl other) ∙ below.other_card h o other inside;
            low = λ o small. elsewhere x o (omega arith) (inr (λ here. omega arith)) ∙ below.low o small;
            copied = λ g o under little gone other in-record.
                elim (ℕ_discrete g n) [
                  | yes same ↦ here g o same in-record
                  | no differs ↦ elsewhere x o (omega arith) (inr (records_apart differs in-record))
                      ∙ below.copied g o (omega arith) little gone other in-record
                ];
          }
        where
          here : (g o : ℕ) → g ≡ n → In (record_region g) o
              → load (size_of d) copied_over x o ≡ load (size_of d) m (next_live_of d g) o
          here g o same in-record =
              let at : o ≡ record_at n + (o - record_at n) = omega arith in
              let source = area_of_live shape' (next_live_of d n) (nexts n) in
              let inside =
              load_copy_run_inside (size_of d) m' (next_live_of d n) (record_at n) x (record_at n) record_size source
              (area_of shape' x real) (omega (arith, few)) (omega (arith, few)) (o - record_at n) (omega arith) in
              rw same
              ((rw (← at) at inside)
              ∙ below.other_card (next_live_of d n) o (not_x (next_live_of d n) (nexts n)) (omega (arith, few)))
      go false neither =
          record {
            same_length = below.same_length;
            other_card = below.other_card;
            low = below.low;
            copied = λ g o under little gone other in-record.
                elim (ℕ_discrete g n) [
                  | yes same ↦ absurd (true≢false
                      (sym (copied_too (rw same at gone) (λ e. other (same ∙ e))) ∙ neither))
                  | no differs ↦ below.copied g o (omega arith) little gone other in-record
                ];
          }
        where
          copied_too : is_live d n ≡ false → n ≢ x → not (is_live d n) && not (eqb n x) ≡ true
          copied_too gone other = rw (gone, ne_eqb n x other)

  pub copied_below : (n : ℕ) → n ≤ d.cards → CopiedBelow d x n m (in_turn (copy_dead_record d x) n m)
  unfolding in_turn
  copied_below zero few =
      record {
        same_length = refl;
        other_card = λ h o other inside. refl;
        low = λ o small. refl;
        copied = λ g o under little gone other in-record. absurd (omega arith);
      }
  copied_below (suc n) few = copied_more n _ (omega arith) (copied_below n (omega arith))
