-- The prices of named labels: one label, labels in two parts, two tests that agree, that they ascend, and what they
-- name and set.
use Rattle.std.specs.Prelude.{ℕ, zero, suc, ◌+◌, ◌*◌, ◌≤◌, ◌<◌, ◌≡◌, ◌≢◌, [], ◌∷◌, ◌++◌, Bool, true, false}
use Rattle.laws.proofs.Prelude.{refl, sym, ◌∙◌, true≢false, arith, ℕ_discrete}
use native.Mathlib.Nat.{add-zero, zero-add}
use Rattle.diff.specs.Prices.{Price, label_of, names, applied_at}
use Rattle.diff.specs.Encoding.{price_at, listed}
use Rattle.diff.proofs.Encoding.{Ascending, none, more, ascending_from}
use Rattle.diff.proofs.Prices.{names-first, names_later, names_none, names_below, applied_first, applied_later}
use Rattle.diff.proofs.Prices.{applied_below}

pub label_at_lem : (label price : ℕ) → label_of (price_at label price) ≡ label
label_at_lem label price = omega arith

module _ (named : ℕ → Bool) (price : ℕ → ℕ) where
  pub listed_none : (label : ℕ) → listed named price label zero ≡ []
  unfolding listed
  listed_none label = refl

  -- a label that is not named, and one that is
  pub listed_skip : (label n : ℕ) → named label ≡ false
      → listed named price label (suc n) ≡ listed named price (label + 1) n
  unfolding listed
  listed_skip label n unnamed = rw unnamed

  pub listed-take : (label n : ℕ) → named label ≡ true
      → listed named price label (suc n) ≡ price_at label (price label) ∷ listed named price (label + 1) n
  unfolding listed
  listed-take label n is = rw is

  -- the labels of two parts, one after the other
  pub listed-append : (label n m : ℕ)
      → listed named price label (n + m) ≡ listed named price label n ++ listed named price (label + n) m
  listed-append label zero m = rw (zero-add m, listed_none label, add-zero label)
  listed-append label (suc n) m = go (named label) refl (listed-append (label + 1) n m)
    where
      at : label + 1 + n ≡ label + suc n
      at = omega arith

      all : suc n + m ≡ suc (n + m)
      all = omega arith

      go : (is : Bool) → named label ≡ is
          → listed named price (label + 1) (n + m)
          ≡ listed named price (label + 1) n ++ listed named price (label + 1 + n) m
          → listed named price label (suc n + m)
          ≡ listed named price label (suc n) ++ listed named price (label + suc n) m
      go true is rest = rw (all, listed-take label (n + m) is, listed-take label n is, rest, at)
      go false un rest = rw (all, listed_skip label (n + m) un, listed_skip label n un, rest, at)

  -- labels of which none is named
  pub listed_unnamed : (label n : ℕ) → ((i : ℕ) → label ≤ i → i < label + n → named i ≡ false)
      → listed named price label n ≡ []
  listed_unnamed label zero unnamed = listed_none label
  listed_unnamed label (suc n) unnamed =
      listed_skip label n (unnamed label (omega arith) (omega arith))
      ∙ listed_unnamed (label + 1) n (λ i above below. unnamed i (omega arith) (omega arith))

  pub listed_ascends : (pages label n : ℕ) → label + n ≤ 32 * pages
      → Ascending pages label (listed named price label n)
  listed_ascends pages label zero fits = rw (listed_none label) none
  listed_ascends pages label (suc n) fits =
      go (named label) refl (listed_ascends pages (label + 1) n (omega arith))
    where
      go : (is : Bool) → named label ≡ is → Ascending pages (label + 1) (listed named price (label + 1) n)
          → Ascending pages label (listed named price label (suc n))
      go true is rest =
          rw (listed-take label n is)
          (more {next = label} {p = price_at label (price label)} {ps = listed named price (label + 1) n} (omega arith)
          (omega arith) (omega arith) (rw label_at_lem rest))
      go false un rest = rw (listed_skip label n un) (ascending_from {low = label} (omega arith) rest)

  -- ---- what they name, and what they set it to

  -- the first label, and others
  module _ (label n : ℕ) where
    abbrev first : Price
    first = price_at label (price label)

    above_first : Ascending (label + 1 + n) (label + 1) (listed named price (label + 1) n)
    above_first = listed_ascends (label + 1 + n) (label + 1) n (omega arith)

    names_first_label : names (listed named price label (suc n)) label ≡ named label
    names_first_label = go (named label) refl
      where
        go : (is : Bool) → named label ≡ is → names (listed named price label (suc n)) label ≡ is
        go true is = rw (listed-take label n is) (names-first first _ label (label_at_lem label (price label)))
        go false un = rw (listed_skip label n un) (names_below above_first label (omega arith))

    applied_first_label : (old : ℕ) → named label ≡ true
        → applied_at (listed named price label (suc n)) label old ≡ price label
    applied_first_label old is =
        rw (listed-take label n is)
        (applied_first first _ label old (label_at_lem label (price label))
        ∙ applied_below above_first label (price label) (omega arith))

    module _ (l : ℕ) (other : label ≢ l) where
      names_other_label : names (listed named price label (suc n)) l ≡ names (listed named price (label + 1) n) l
      names_other_label = go (named label) refl
        where
          go : (is : Bool) → named label ≡ is
              → names (listed named price label (suc n)) l ≡ names (listed named price (label + 1) n) l
          go true is = rw (listed-take label n is) (names_later first _ l (omega arith))
          go false un = rw (listed_skip label n un)

      applied_other_label : (old : ℕ)
          → applied_at (listed named price label (suc n)) l old ≡ applied_at (listed named price (label + 1) n) l old
      applied_other_label old = go (named label) refl
        where
          go : (is : Bool) → named label ≡ is
              → applied_at (listed named price label (suc n)) l old ≡ applied_at (listed named price (label + 1) n) l old
          go true is = rw (listed-take label n is) (applied_later first _ l old (omega arith))
          go false un = rw (listed_skip label n un)

  -- they name just those of their labels that the test names
  pub listed-names : (label n l : ℕ) → label ≤ l → l < label + n → names (listed named price label n) l ≡ named l
  listed-names label zero l low high = absurd (omega arith)
  listed-names label (suc n) l low high = elim (ℕ_discrete label l) [
    | yes same ↦ rw (← same) (names_first_label label n)
    | no other ↦ names_other_label label n l other ∙ listed-names (label + 1) n l (omega arith) (omega arith)
  ]

  -- a label that they name is set to its price, whatever it was
  pub listed_applied : (label n l old : ℕ) → names (listed named price label n) l ≡ true
      → applied_at (listed named price label n) l old ≡ price l
  listed_applied label zero l old is = absurd (true≢false (sym is ∙ rw (listed_none label) (names_none l)))
  listed_applied label (suc n) l old is = elim (ℕ_discrete label l) [
    | yes same ↦
        rw (← same) (applied_first_label label n old (sym (names_first_label label n) ∙ (rw (← same) at is)))
    | no other ↦
        applied_other_label label n l other old
        ∙ listed_applied (label + 1) n l old (sym (names_other_label label n l other) ∙ is)
  ]

-- two tests that agree on these labels, and prices that do where a label is named
pub listed_agree : (named named' : ℕ → Bool) (price price' : ℕ → ℕ) (label n : ℕ)
    → ((i : ℕ) → label ≤ i → i < label + n → named i ≡ named' i)
    → ((i : ℕ) → label ≤ i → i < label + n → named i ≡ true → price i ≡ price' i)
    → listed named price label n ≡ listed named' price' label n
listed_agree named named' price price' label zero same equal =
    listed_none named price label ∙ sym (listed_none named' price' label)
listed_agree named named' price price' label (suc n) same equal =
    go (named label) refl
    (listed_agree named named' price price' (label + 1) n (λ i above below. same i (omega arith) (omega arith))
    (λ i above below. equal i (omega arith) (omega arith)))
  where
    here : named label ≡ named' label
    here = same label (omega arith) (omega arith)

    go : (is : Bool) → named label ≡ is
        → listed named price (label + 1) n ≡ listed named' price' (label + 1) n
        → listed named price label (suc n) ≡ listed named' price' label (suc n)
    go true is rest =
        rw (
          listed-take named price label n is,
          listed-take named' price' label n (sym here ∙ is),
          equal label (omega arith) (omega arith) is,
          rest,
        )
    go false un rest =
        rw (listed_skip named price label n un, listed_skip named' price' label n (sym here ∙ un), rest)
