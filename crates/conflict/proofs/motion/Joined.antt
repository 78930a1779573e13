-- The pages of a list, marked aside and then joined to other marks, are marked as if among these from the first.
use Rattle.std.specs.Prelude.{ℕ, zero, suc, ◌≤◌, ◌<◌, ◌≡◌, List, Bool, false, ◌||◌, length, get_or}
use Rattle.laws.proofs.Prelude.{refl, sym, ◌∙◌, ℕ_discrete, arith}
use lib.ListN.{length-set}
use lib.Seq.{get_or-set_same, get_or-set_other, ext_get_or}
use Rattle.laws.specs.Search.{in_turn}
use Rattle.diff.specs.Prices.{prices_of}
use Rattle.diff.proofs.Stored.{prices_on_pages}
use Rattle.conflict.specs.Marks.{marked}
use Rattle.conflict.specs.Motion.{page_of, join_mark}
use Rattle.conflict.proofs.Marks.{unmarked, length_marked, marks_more, marks_all}

module _ (more marks : List Bool) where
  abbrev joined : ℕ → List Bool
  joined n = in_turn (join_mark more) n marks

  length-joined : (n : ℕ) → length (joined n) ≡ length marks
  unfolding in_turn
  length-joined zero = refl
  length-joined (suc n) = simp length-set (length-joined n)

  not-joined : (n at : ℕ) → n ≤ at → get_or (joined n) at false ≡ get_or marks at false
  unfolding in_turn
  not-joined zero at past = refl
  not-joined (suc n) at past =
      get_or-set_other (joined n) n at _ false (λ same. omega arith) ∙ not-joined n at (omega arith)

  joined_at : (n at : ℕ) → n ≤ length marks → at < n
      → get_or (joined n) at false ≡ (get_or more at false || get_or marks at false)
  unfolding in_turn
  joined_at zero at fits below = absurd (omega arith)
  joined_at (suc n) at fits below =
      elim (ℕ_discrete at n) [
        | yes same ↦
            rw same
            (get_or-set_same (joined n) n _ false (omega (arith, length-joined n))
            ∙ rw (not-joined n n (omega arith)))
        | no other ↦ get_or-set_other (joined n) n at _ false other ∙ joined_at n at (omega arith) (omega arith)
      ]

pub pages_joined : (pages : ℕ) → pages ≤ 64 → (list : List ℕ) (marks : List Bool) → length marks ≡ 64
    → in_turn (join_mark (marked page_of (prices_of pages list) (unmarked 64))) 64 marks
    ≡ marked page_of (prices_of pages list) marks
pages_joined pages few list marks long =
    let ps = prices_of pages list in
    let aside = marked page_of ps (unmarked 64) in
    let on = prices_on_pages pages list in
    ext_get_or false _ _ (length-joined aside marks 64 ∙ sym (length_marked page_of ps marks))
    (λ at below.
    joined_at aside marks 64 at (omega arith) (omega (arith, length-joined aside marks 64))
    ∙ rw (
      marks_all page_of 64 pages (λ p page _. omega arith) at ps on,
      marks_more page_of 64 pages (λ p page _. omega arith) at ps marks long on,
    ))
