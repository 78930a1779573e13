-- The book at one accepted call: what is changed for one card, and what a step makes of the book.
use Rattle.std.specs.Prelude.{ℕ, suc, ◌≤◌, ◌<◌, ◌≡◌, ◌≢◌, List, [], cond, length, ltb}
use Rattle.laws.proofs.Prelude.{refl, sym, ◌∙◌, subst, arith, ℕ_discrete, lt-ltb, le-ltb, eq-eqb, ne_eqb}
use mathlib.Core.Path.{fun_ext}
use Rattle.area.specs.Prelude.{Release, desk_size}
use Rattle.diff.specs.declared.Price.{Price}
use Rattle.protocol.specs.Release.{counts_at, steps_in}
use Rattle.protocol.specs.Book.{Opened, none, opened, Book, update, list_prices, count, set_open, step_book}

-- ---- a value for one card

module _ {A : Type 0} (f : ℕ → A) (c : ℕ) (a : A) where
  pub update_same : update f c a c ≡ a
  unfolding update
  update_same = rw (eq-eqb c c refl)

  pub update_other : (x : ℕ) → x ≢ c → update f c a x ≡ f x
  unfolding update
  update_other x other = rw (ne_eqb x c other)

  -- what holds of the new value, and of the others as they were, holds of all
  pub update_each : (P : ℕ → A → Type 0) → P c a → ((x : ℕ) → x ≢ c → P x (f x)) → (x : ℕ) → P x (update f c a x)
  update_each P here others x =
      elim (ℕ_discrete x c) [
        | yes same ↦ rw same (subst (P c) (sym update_same) here)
        | no other ↦ subst (P x) (sym (update_other x other)) (others x other)
      ]

  pub update_unchanged : f c ≡ a → update f c a ≡ f
  update_unchanged is = fun_ext (update_each (λ x v. v ≡ f x) (sym is) (λ x other. refl))

pub update-update : {A : Type 0} (f : ℕ → A) (c : ℕ) (a a' : A) → update (update f c a) c a' ≡ update f c a'
update-update f c a a' =
    fun_ext
    (update_each (update f c a) c a' (λ x v. v ≡ update f c a' x) (sym (update_same f c a'))
    (λ x other. update_other f c a x other ∙ sym (update_other f c a' x other)))

-- ---- an open release

-- a release with a desk of eight words
abbrev pub EightWords : Opened → Type 0
EightWords none = Unit {0}
EightWords (opened r list s) = length r.desk ≡ desk_size

-- those of its prices that the book has not yet
unfoldable pub uncounted : Opened → List Price
uncounted none = []
uncounted (opened r list steps) = cond (ltb steps (counts_at (length (list_prices list)))) (list_prices list) []

module _ (r : Release) (list : List ℕ) (s : ℕ) where
  pub uncounted_early : s < counts_at (length (list_prices list)) → uncounted (opened r list s) ≡ list_prices list
  unfolding uncounted
  uncounted_early early = rw (lt-ltb s (counts_at (length (list_prices list))) early)

  pub uncounted_late : counts_at (length (list_prices list)) ≤ s → uncounted (opened r list s) ≡ []
  unfolding uncounted
  uncounted_late late = rw (le-ltb s (counts_at (length (list_prices list))) late)

pub uncounted_none : uncounted none ≡ []
unfolding uncounted
uncounted_none = refl

-- ---- a step

module _ (b : Book) (c : ℕ) (r : Release) (list : List ℕ) (s : ℕ) where
  -- that neither counts the release nor closes it
  pub step_book_plain : suc s ≢ counts_at (length (list_prices list)) → suc s ≢ steps_in (length (list_prices list))
      → step_book b c (opened r list s) ≡ set_open b c (opened r list (suc s))
  unfolding step_book
  step_book_plain counts closes =
      rw (
        ne_eqb (suc s) (counts_at (length (list_prices list))) counts,
        ne_eqb (suc s) (steps_in (length (list_prices list))) closes,
      )

  pub step_book_counts : suc s ≡ counts_at (length (list_prices list))
      → step_book b c (opened r list s) ≡ set_open (count b c r list) c (opened r list (suc s))
  unfolding step_book
  step_book_counts counts =
      rw (
        eq-eqb (suc s) (counts_at (length (list_prices list))) counts,
        ne_eqb (suc s) (steps_in (length (list_prices list))) (omega arith),
      )

  pub step_book_closes : suc s ≡ steps_in (length (list_prices list))
      → step_book b c (opened r list s) ≡ set_open b c none
  unfolding step_book
  step_book_closes closes =
      rw (
        ne_eqb (suc s) (counts_at (length (list_prices list))) (omega arith),
        eq-eqb (suc s) (steps_in (length (list_prices list))) closes,
      )
