-- Laws of the counts of pages: one page more, the loops that count pages and look for the fewest, and counts that stay
-- right while homes are given out.
use Rattle.std.specs.Prelude.{ℕ, ◌+◌, ◌<◌, ◌≤◌, ◌≡◌, ◌≢◌, List, Bool, true, false, cond, ◌||◌, length, get_or}
use Rattle.std.specs.Prelude.{replicate, ltb, eqb}
use Rattle.laws.proofs.Prelude.{refl, sym, ap, ◌∙◌, true≢false, ℕ_discrete, dec_lt, arith, eqb-true, eq-eqb}
use Rattle.laws.proofs.Prelude.{ne_eqb, ltb-true, ltb-false}
use mathlib.Core.Bool.{or_self, and-true}
use native.Mathlib.Nat.{add-zero}
use native.Mathlib.Numerals.{add-one}
use lib.ListN.{length-set, get_or-eq_default}
use lib.Seq.{get_or-set_same, get_or-set_other, ext_get_or}
use Rattle.std.specs.Prelude.{Option, None, Some, MatchOption}
use Rattle.laws.specs.Search.{count_below, lowest_below}
use Rattle.laws.proofs.Bools.{by_cond, and_first, and_second, and_rest}
use Rattle.laws.proofs.Search.{counted_few, lowest_below_at, lowest_below_past, lowest_below_or}
use Rattle.directory.specs.Directory.{Directory, is_live, with_homes, table_from, table}
use Rattle.directory.specs.NewHome.{is_home_in, pages_in, pages_at, may_take, is_fewest, fewest_home, even_home}
use Rattle.directory.specs.PageCounts.{count_at, one_added, page_more, CountsRight, takes_over}
use Rattle.directory.proofs.Live.{live_not_dead}
use Rattle.directory.proofs.Table.{table-length, table_read}
use Rattle.directory.proofs.NewHome.{taker_live, fewest_home_unique, fewest_home_none, fewest_home_agrees, Keeps}
use Rattle.directory.proofs.NewHome.{pages_at_moved}

-- ---- one page more

one_more_at : (counts : List ℕ) (home c : ℕ) → c < length counts
    → count_at (one_added counts home) c ≡ count_at counts c + cond (eqb home c) 1 0
one_more_at counts home c within =
    elim (ℕ_discrete c home) [
      | yes same ↦
          rw (eq-eqb home c (sym same)) (rw same (get_or-set_same counts home (count_at counts home + 1) 0 (omega arith)))
      | no other ↦
          rw (ne_eqb home c (λ e. other (sym e)), add-zero)
          (get_or-set_other counts home c (count_at counts home + 1) 0 other)
    ]

-- for both homes of a page, which are one or two
page_more_at : (counts : List ℕ) (primary secondary c : ℕ) → c < length counts
    → count_at (page_more counts primary secondary) c
    ≡ count_at counts c + cond (eqb primary c || eqb secondary c) 1 0
page_more_at counts primary secondary c within =
    elim (ℕ_discrete secondary primary) [
      | yes same ↦
          rw (eq-eqb secondary primary same)
          (rw (same, or_self) (one_more_at counts primary c within))
      | no other ↦
          rw (ne_eqb secondary primary other)
          (one_more_at (one_added counts primary) secondary c (simp length-set within)
          ∙ ap (λ (n : ℕ). n + cond (eqb secondary c) 1 0) (one_more_at counts primary c within)
          ∙ both other (eqb primary c) refl (eqb secondary c) refl)
    ]
  where
    both : secondary ≢ primary → (first : Bool) → eqb primary c ≡ first → (second : Bool) → eqb secondary c ≡ second
        → count_at counts c + cond first 1 0 + cond second 1 0 ≡ count_at counts c + cond (first || second) 1 0
    both other true first true second =
        absurd (other (eqb-true secondary c second ∙ sym (eqb-true primary c first)))
    both other true first false second = rw add-zero
    both other false first second at = rw add-zero

page_more_length : (counts : List ℕ) (primary secondary : ℕ)
    → length (page_more counts primary secondary) ≡ length counts
page_more_length counts primary secondary =
    by_cond (λ (l : List ℕ). length l ≡ length counts) (eqb secondary primary) _ _
    (λ _. simp length-set)
    (λ _. simp length-set)

-- ---- a loop that counts pages: it has passed those below n

-- its counts are those of the pages passed
pub record CountedBelow (primary secondary : List ℕ) (pages n : ℕ) (counts : List ℕ) : Type 0 where
  pub upto : n ≤ pages
  pub long : length counts ≡ 8
  pub are : counts ≡ table (pages_in primary secondary n) 8

module _ {primary secondary : List ℕ} {pages : ℕ} where
  pub counted_below_none : CountedBelow primary secondary pages 0 (replicate 8 0)
  unfolding table_from count_below
  counted_below_none = record { upto = omega arith; long = refl; are = refl }

  module _ {n : ℕ} {counts : List ℕ} (far : CountedBelow primary secondary pages n counts) where
    count_is : (c : ℕ) → c < 8 → count_at counts c ≡ pages_in primary secondary n c
    count_is c within = rw far.are (table_read (pages_in primary secondary n) 8 c 0 within)

    -- no count is more than the pages passed
    pub counted_below_few : (c : ℕ) → count_at counts c ≤ n
    counted_below_few c =
        elim (dec_lt c 8) [
          | yes within ↦
              rw (count_is c within)
              (counted_few {test = is_home_in primary secondary c} {n = n} (record { upto = omega arith; is = refl }))
          | no past ↦
              rw (get_or-eq_default counts 0 {n = c} (omega (arith, far.long))) (omega arith)
        ]

    pages_next : (c : ℕ) → pages_in primary secondary (n + 1) c
        ≡ pages_in primary secondary n c + cond (is_home_in primary secondary c n) 1 0
    unfolding count_below
    pages_next c = rw add-one

    pub counted_below_more : n < pages
        → CountedBelow primary secondary pages (n + 1) (page_more counts (get_or primary n 0) (get_or secondary n 0))
    counted_below_more below =
        let first = get_or primary n 0 in
        let second = get_or secondary n 0 in
        let long = page_more_length counts first second ∙ far.long in
        let next = pages_in primary secondary (n + 1) in
        record {
          upto = omega arith;
          long = long;
          are =
              ext_get_or 0 (page_more counts first second) (table next 8) (long ∙ sym (table-length next 8))
              (λ c within.
              page_more_at counts first second c (omega (arith, far.long))
              ∙ ap (λ (k : ℕ). k + cond (is_home_in primary secondary c n) 1 0) (count_is c (omega arith))
              ∙ sym (pages_next c)
              ∙ sym (table_read next 8 c 0 (omega arith)));
        }

    pub counted_below_all : pages ≤ n → counts ≡ table (pages_in primary secondary pages) 8
    counted_below_all past = let end : n ≡ pages = omega (arith, far.upto) in rw end at far.are

-- ---- a loop that looks for the fewest: it has passed the cards below i

module _ (marks : List Bool) (count : ℕ → ℕ) (kept : ℕ) where
  -- the lowest of the fewest among those passed
  pub record FewestBelow (i found : ℕ) : Type 0 where
    pub below : found < i
    pub may : may_take marks kept found ≡ true
    pub least : (c : ℕ) → c < i → may_take marks kept c ≡ true → count found ≤ count c
    pub lower : (c : ℕ) → c < found → may_take marks kept c ≡ true → count found < count c

  -- the card found, if any of those passed may take the page
  abbrev pub FewestSoFar : ℕ → Option ℕ → Type 0
  FewestSoFar i found = MatchOption found ((c : ℕ) → c < i → may_take marks kept c ≡ false) (λ card. FewestBelow i card)

  pub fewest_of_none : FewestSoFar 0 None
  fewest_of_none = λ c h. absurd (omega arith)

  -- card i takes the place of the one found
  pub fewest_changed : (i : ℕ) (found : Option ℕ) → FewestSoFar i found → takes_over marks count kept found i ≡ true
      → FewestSoFar (i + 1) (Some i)
  fewest_changed i None none takes =
      let may = and_first (may_take marks kept i) true takes in
      record {
        below = omega arith;
        may = may;
        least = λ c h may-c.
            elim (ℕ_discrete c i) [
              | yes same ↦ rw same (omega arith)
              | no other ↦ absurd (true≢false (sym may-c ∙ none c (omega arith)))
            ];
        lower = λ c h may-c. absurd (true≢false (sym may-c ∙ none c h));
      }
  fewest_changed i (Some best) far takes =
      let may = and_first (may_take marks kept i) (ltb (count i) (count best)) takes in
      let less = ltb-true (count i) (count best) (and_second (may_take marks kept i) (ltb (count i) (count best)) takes) in
      record {
        below = omega arith;
        may = may;
        least = λ c h may-c.
            elim (ℕ_discrete c i) [
              | yes same ↦ rw same (omega arith)
              | no other ↦ omega (arith, far.least c (omega arith) may-c)
            ];
        lower = λ c h may-c. omega (arith, far.least c h may-c);
      }

  -- the card found stays
  pub fewest_stays : (i : ℕ) (found : Option ℕ) → FewestSoFar i found → takes_over marks count kept found i ≡ false
      → FewestSoFar (i + 1) found
  fewest_stays i None none stays =
      λ c h.
      elim (ℕ_discrete c i) [
        | yes same ↦ rw same (sym (and-true _) ∙ stays)
        | no other ↦ none c (omega arith)
      ]
  fewest_stays i (Some best) far stays =
      record {
        below = omega (arith, far.below);
        may = far.may;
        least = λ c h may-c.
            elim (ℕ_discrete c i) [
              | yes same ↦
                  rw same
                  (ltb-false (count i) (count best)
                  (and_rest (may_take marks kept i) (ltb (count i) (count best)) (rw same at may-c) stays))
              | no other ↦ far.least c (omega arith) may-c
            ];
        lower = far.lower;
      }

  pub fewest_of_all : (cards i : ℕ) (found : Option ℕ) → i ≡ cards → FewestSoFar i found
      → found ≡ lowest_below (is_fewest marks cards count kept) cards
  fewest_of_all cards i None end none =
      lowest_below_past _ cards (omega (arith, fewest_home_none marks cards count kept (λ c h. none c (omega arith))))
  fewest_of_all cards i (Some best) end far =
      lowest_below_at _ cards best
      (fewest_home_unique marks cards count kept best (omega (arith, far.below)) far.may
      (λ c h. far.least c (omega arith))
      far.lower)
      (omega (arith, far.below))

-- ---- counts of the live cards that are right, while homes are given out

pub counts_right_at_first : (d : Directory) → d.cards ≤ 8 → CountsRight d (table (pages_at d) 8)
counts_right_at_first d few =
    record { right = λ c below _. table_read (pages_at d) 8 c 0 (omega arith) }

module _ (d : Directory) (counts : List ℕ) (counted : CountsRight d counts) where
  -- the card whose count is the least is the one that is home to the fewest pages
  pub fewest_home_is_even : (kept : ℕ) → fewest_home d.live d.cards (count_at counts) kept ≡ even_home d kept
  unfolding even_home
  fewest_home_is_even kept =
      fewest_home_agrees d.live d.live d.cards (count_at counts) (pages_at d) kept (λ c below. refl)
      (λ c below may. counted.right c below (taker_live d.live kept c may))

  -- a page that lost its home f, a dead card, gets the home `new`, which is counted
  pub counts_right_moved : (page f kept new : ℕ) → page < d.pages → page < length d.primary
      → page < length d.secondary → Keeps d page f kept → is_live d f ≡ false → new ≢ kept
      → d.cards ≤ length counts → CountsRight (with_homes d page kept new) (one_added counts new)
  counts_right_moved page f kept new below in_primary in_secondary keeps dead other long =
      record {
        right = λ c within live.
            one_more_at counts new c (omega arith)
            ∙ ap (λ (n : ℕ). n + cond (eqb new c) 1 0) (counted.right c within live)
            ∙ sym
            (pages_at_moved d page f kept new below in_primary in_secondary keeps c
            (λ e. live_not_dead live (rw e dead)) other);
      }

-- ---- what the functions of `homes` rest on

pub ruleset counting_steps = (counted_below_more, counted_below_all)

pub ruleset chosen_evenly = (lowest_below_or, fewest_home_is_even)
