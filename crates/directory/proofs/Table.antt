-- Laws of the directory's arrays: tables of a function's values, arrays filled with them, and what is past the end.
use Rattle.std.specs.Prelude.{ℕ, zero, suc, ◌+◌, ◌<◌, ◌≤◌, ◌≡◌, List, [], ◌∷◌, ◌++◌, length, drop, set, get_or}
use Rattle.std.specs.Array.{IsFromFnResult, IsFromFnResultFrom}
use Rattle.std.specs.Fn.{Called}
use denote.Param.Members.{Mut}
use Rattle.laws.proofs.Prelude.{refl, sym, ap, ◌∙◌, subst, ℕ_discrete, arith, eq-eqb, ne_eqb}
use mathlib.Core.List.{append-nil}
use native.Mathlib.Nat.{add-zero, zero-add}
use native.Mathlib.Numerals.{add-one}
use lib.ListN.{length-set, drop_of_length-le, get_or-eq_default}
use lib.Seq.{ext_get_or, drop-cons, set_at, set_out, get_or-set_other, append_snoc}
use Rattle.directory.specs.Directory.{table_from, table}

module _ {A : Type 0} (f : ℕ → A) where
  pub table_from_length : (i n : ℕ) → length (table_from f i n) ≡ n
  unfolding table_from
  table_from_length i zero = refl
  table_from_length i (suc n) = ap suc (table_from_length (suc i) n)

  pub table_from_read : (i n k : ℕ) (default : A) → k < n → get_or (table_from f i n) k default ≡ f (i + k)
  unfolding table_from
  table_from_read i zero k default h = absurd (omega arith)
  table_from_read i (suc n) zero default h = rw add-zero
  table_from_read i (suc n) (suc k) default h =
      let shift : suc i + k ≡ i + suc k = omega arith in
      table_from_read (suc i) n k default (omega arith) ∙ ap f shift

  pub table_from_more : (i n : ℕ) → table_from f i (suc n) ≡ table_from f i n ++ (f (i + n) ∷ [])
  unfolding table_from
  table_from_more i zero = rw add-zero
  table_from_more i (suc n) =
      let shift : i + suc n ≡ suc i + n = omega arith in
      rw shift (ap (λ (rest : List A). f i ∷ rest) (table_from_more (suc i) n))

  pub table-length : (n : ℕ) → length (table f n) ≡ n
  table-length n = table_from_length 0 n

  pub table_read : (n k : ℕ) (default : A) → k < n → get_or (table f n) k default ≡ f k
  table_read n k default h = table_from_read 0 n k default h ∙ ap f (zero-add k)

no_table : {A : Type 0} (f : ℕ → A) (n : ℕ) → n ≡ 0 → [] ≡ table f n
unfolding table_from
no_table f n none = rw none

-- a list with the items of a table
pub table_by_items : {A : Type 0} (ys : List A) (f : ℕ → A) (n : ℕ) → length ys ≡ n
    → ((i : ℕ) (default : A) → i < n → get_or ys i default ≡ f i) → ys ≡ table f n
table_by_items [] f n long items = no_table f n (omega arith)
table_by_items (y ∷ ys) f n long items =
    ext_get_or y (y ∷ ys) (table f n) (long ∙ sym (table-length f n))
    (λ i below. items i y (omega arith) ∙ sym (table_read f n i y (omega arith)))

-- ---- an array that is made of what a closure answers, which no call of it changes

module _ {F A : Type 0} (g : Mut F (ℕ × Unit {0}) A) (f : F) (v : ℕ → A) (ys : List A) (all : ℕ)
    (answers : (i : ℕ) (a : A) (f' : F) → i < all → Called g f (i, tt) a f' → (a ≡ v i) × (f' ≡ f)) where
  made_from : (i n : ℕ) → i + n ≡ all → IsFromFnResultFrom g f ys i n → (k : ℕ) (default : A) → i ≤ k → k < all
      → get_or ys k default ≡ v k
  made_from i zero end made k default from below = absurd (omega arith)
  made_from i (suc n) end (f', a, at, call, rest) k default from below =
      elim (ℕ_discrete k i) [
        | yes same ↦ rw same (at.1 default ∙ (answers i a f' (omega arith) call).0)
        | no other ↦
            let kept = subst (λ h. IsFromFnResultFrom g h ys (i + 1) n) (answers i a f' (omega arith) call).1 rest in
            made_from (i + 1) n (omega arith) kept k default (omega arith) below
      ]

  pub table_made : IsFromFnResult g f ys all → ys ≡ table v all
  table_made made =
      table_by_items ys v all made.long
      (λ i default below. made_from 0 all (omega arith) made.each i default (omega arith) below)

-- ---- an array that is filled with a table's values from the front

-- the first n of the array are the table's, the others as at the start
pub record Filled {A : Type 0} (f : ℕ → A) (n : ℕ) (start array : List A) : Type 0 where
  pub within : n ≤ length start
  pub length_kept : length array ≡ length start
  pub front : array ≡ table f n ++ drop n start

module _ {A : Type 0} {f : ℕ → A} {start : List A} where
  pub fill_none : Filled f 0 start start
  unfolding table_from
  fill_none = record { within = omega arith; length_kept = refl; front = refl }

  pub fill_more : {n : ℕ} {array : List A} {a : A} → Filled f n start array → n < length start → a ≡ f n
      → Filled f (n + 1) start (set array n a)
  fill_more {n} {array} {a} filled h e =
      record {
        within = omega arith;
        length_kept = simp length-set filled.length_kept;
        front =
            rw (
              filled.front,
              e,
              add-one,
              drop-cons start n a h,
              set_at (table f n) _ _ (f n) n (table-length f n),
              table_from_more,
              zero-add,
            )
            (sym (append_snoc (table f n) (f n) (drop (suc n) start)));
      }

  pub fill_all : (n : ℕ) {k : ℕ} {array : List A} → Filled f k start array → length start ≡ n → n ≤ k
      → array ≡ table f n
  fill_all n {k} filled e h =
      let all : k ≡ n = omega arith in
      let past : length start ≤ n = omega arith in
      filled.front ∙ rw (all, drop_of_length-le start past) (append-nil (table f n))

-- ---- past the end

pub ruleset set_past = (set_out)

pub ruleset set_elsewhere = (get_or-set_other, eq-eqb, ne_eqb)

-- of an array of n

module _ {A : Type 0} (array : List A) (n i : ℕ) (a : A) where
  pub read_past_end : length array ≡ n → n ≤ i → a ≡ get_or array i a
  read_past_end e h = sym (get_or-eq_default array a (omega arith))

  pub store_past_end : length array ≡ n → n ≤ i → set array i a ≡ array
  store_past_end e h = set_out array i a (omega arith)
