-- How many prices are on a page: of two lists, of labels that are not of the page, and of those of the page's words
-- that are marked, which are as many as its word of marks has ones.
use Rattle.std.specs.Prelude.{ℕ, zero, suc, ◌+◌, ◌*◌, ◌/◌, ◌^◌, ◌≤◌, ◌<◌, ◌≡◌, ◌≢◌, List, [], ◌∷◌, ◌++◌, Bool, true}
use Rattle.std.specs.Prelude.{false, cond}
use Rattle.laws.proofs.Prelude.{refl, sym, ◌∙◌, arith, eq-eqb, ne_eqb}
use native.Mathlib.Nat.{add-zero, zero-add}
use lib.Count.{ones, ones_in, ones_step}
use Rattle.diff.specs.Prices.{Price}
use Rattle.diff.specs.Encoding.{price_at, listed}
use Rattle.diff.specs.Marks.{is_set}
use Rattle.diff.specs.MadeDiff.{prices_on}
use Rattle.diff.proofs.Bits.{bit_half, half_small, first-set}
use Rattle.diff.proofs.Listed.{listed-append}

on_append : (page : ℕ) (ps qs : List Price) → prices_on page (ps ++ qs) ≡ prices_on page ps + prices_on page qs
unfolding prices_on
on_append page [] qs = omega arith
on_append page (p ∷ ps) qs = omega (arith, on_append page ps qs)

ones_none : (word : ℕ) → word ≡ 0 → ones word ≡ 0
unfolding ones ones_in
ones_none word none = rw none

module _ (named : ℕ → Bool) (price : ℕ → ℕ) (page : ℕ) where
  -- labels that are not of the page
  listed_off_page : (label n : ℕ) → ((i : ℕ) → label ≤ i → i < label + n → i / 32 ≢ page)
      → prices_on page (listed named price label n) ≡ 0
  unfolding prices_on listed
  listed_off_page label zero off = refl
  listed_off_page label (suc n) off =
      go (named label) (listed_off_page (label + 1) n (λ i low high. off i (omega arith) (omega arith)))
    where
      go : (is : Bool) → prices_on page (listed named price (label + 1) n) ≡ 0
          → prices_on page (cond is (price_at label (price label) ∷ []) [] ++ listed named price (label + 1) n) ≡ 0
      go true rest = rw (ne_eqb (label / 32) page (off label (omega arith) (omega arith))) (omega arith)
      go false rest = rest

  -- labels of the page that are named as the bits of a word are set
  listed_ones : (label n word : ℕ) → ((i : ℕ) → label ≤ i → i < label + n → i / 32 ≡ page)
      → ((w : ℕ) → w < n → named (label + w) ≡ is_set word w) → word < 2 ^ n
      → prices_on page (listed named price label n) ≡ ones word
  unfolding prices_on listed
  listed_ones label zero word on set small = sym (ones_none word (omega arith))
  listed_ones label (suc n) word on set small =
      first (named label)
      ∙ rw (
        first_named,
        first-set word,
        listed_ones (label + 1) n (word / 2) (λ i low high. on i (omega arith) (omega arith)) other_named
            (half_small n word small),
      )
      (sym (ones_step word))
    where
      first : (is : Bool)
          → prices_on page (cond is (price_at label (price label) ∷ []) [] ++ listed named price (label + 1) n)
          ≡ cond is 1 0 + prices_on page (listed named price (label + 1) n)
      first true = rw (eq-eqb (label / 32) page (on label (omega arith) (omega arith)))
      first false = omega arith

      first_named : named label ≡ is_set word 0
      first_named = rw add-zero at (set 0 (omega arith))

      other_named : (w : ℕ) → w < n → named (label + 1 + w) ≡ is_set (word / 2) w
      other_named w below =
          let at : label + 1 + w ≡ label + suc w = omega arith in
          rw (at, bit_half word w) (set (suc w) (omega arith))

  -- the 32 labels of the page, those before them and n after them
  pub listed_page : (n word : ℕ) → ((w : ℕ) → w < 32 → named (32 * page + w) ≡ is_set word w) → word < 2 ^ 32
      → prices_on page (listed named price 0 (32 * page + (32 + n))) ≡ ones word
  listed_page n word set small =
      rw (
        listed-append named price 0 (32 * page) (32 + n),
        zero-add,
        listed-append named price (32 * page) 32 n,
        on_append,
        on_append,
      )
      (omega (
        arith,
        listed_off_page 0 (32 * page) (λ i low high. omega arith),
        listed_ones (32 * page) 32 word (λ i low high. omega arith) set small,
        listed_off_page (32 * page + 32) n (λ i low high. omega arith),
      ))
