-- Marks stand for prices: a place is marked if a price has it.
use Rattle.std.specs.Prelude.{ℕ, zero, suc, ◌<◌, ◌≡◌, List, [], ◌∷◌, ◌++◌, Bool, true, false, cond, ◌||◌, eqb}
use Rattle.std.specs.Prelude.{length, get_or, set, replicate}
use Rattle.laws.proofs.Prelude.{refl, sym, ◌∙◌, ℕ_discrete, eq-eqb, ne_eqb}
use mathlib.Core.Bool.{or-true, or-false}
use lib.ListN.{length-set, length-replicate}
use lib.Seq.{get_or-set_same, get_or-set_other}
use Rattle.diff.specs.declared.Price.{Price}
use Rattle.diff.proofs.Stored.{OnPages}
use Rattle.conflict.specs.Marks.{marked}

-- none of so many places marked
abbrev pub unmarked : ℕ → List Bool
unmarked places = replicate places false

pub get_or_unmarked : (places at : ℕ) → get_or (unmarked places) at false ≡ false
get_or_unmarked zero at = refl
get_or_unmarked (suc n) zero = refl
get_or_unmarked (suc n) (suc at) = get_or_unmarked n at

-- whether some price has this place
unfoldable pub any_at : (Price → ℕ) → List Price → ℕ → Bool
any_at place [] at = false
any_at place (p ∷ ps) at = cond (eqb (place p) at) true (any_at place ps at)

pub length_marked : (place : Price → ℕ) (ps : List Price) (marks : List Bool)
    → length (marked place ps marks) ≡ length marks
unfolding marked
length_marked place [] marks = refl
length_marked place (p ∷ ps) marks =
    length_marked place ps (set marks (place p) true) ∙ length-set marks (place p) true

module _ (place : Price → ℕ) (places pages : ℕ)
    (inside : (p : Price) → p.page < pages → p.word < 32 → place p < places) (at : ℕ) where
  pub marks_more : (ps : List Price) (marks : List Bool) → length marks ≡ places → OnPages pages ps
      → get_or (marked place ps marks) at false ≡ (any_at place ps at || get_or marks at false)
  unfolding marked any_at
  marks_more [] marks long on = refl
  marks_more (p ∷ ps) marks long on =
      marks_more ps (set marks (place p) true) (simp length-set long) on.2 ∙ go (ℕ_discrete (place p) at)
    where
      go : Dec (place p ≡ at)
          → (any_at place ps at || get_or (set marks (place p) true) at false)
          ≡ (any_at place (p ∷ ps) at || get_or marks at false)
      go (yes same) =
          let within : place p < length marks = rw long (inside p on.0 on.1) in
          rw (eq-eqb (place p) at same, ← same, get_or-set_same marks (place p) true false within)
          (or-true (any_at place ps (place p)))
      go (no other) =
          rw (ne_eqb (place p) at other, get_or-set_other marks (place p) at true false (λ e. other (sym e)))

  pub marks_all : (ps : List Price) → OnPages pages ps
      → get_or (marked place ps (unmarked places)) at false ≡ any_at place ps at
  marks_all ps on =
      marks_more ps (unmarked places) (length-replicate places false) on
      ∙ rw (get_or_unmarked places at) (or-false (any_at place ps at))

-- to mark some prices and then the others is to mark all: what the walks over a list rest on, of which each marks by
-- another place
pub marked_in_two : (place : Price → ℕ) (had left : List Price) (marks : List Bool)
    → marked place (had ++ left) marks ≡ marked place left (marked place had marks)
unfolding marked
marked_in_two place [] left marks = refl
marked_in_two place (p ∷ had) left marks = marked_in_two place had left (set marks (place p) true)

-- so one price more
pub marked_next : (place : Price → ℕ) (ps : List Price) (p : Price) (marks : List Bool)
    → set (marked place ps marks) (place p) true ≡ marked place (ps ++ p ∷ []) marks
unfolding marked
marked_next place ps p marks = sym (marked_in_two place ps (p ∷ []) marks)
