-- What is done to the pages of a rack shows which labels are named, and at which prices: prices that do the same to every
-- label name the same ones, and an allowed diff is told by its effect.
use Rattle.std.specs.Prelude.{ℕ, ◌*◌, ◌<◌, ◌≡◌, List, Bool, true, false, length, get_or, replicate}
use Rattle.laws.proofs.Prelude.{refl, sym, ap, ◌∙◌, true≢false, arith, dec_lt}
use lib.ListN.{length-replicate, get_or-replicate}
use Rattle.diff.specs.Prices.{Price, prices_of, names, applied_at, apply_prices}
use Rattle.diff.specs.OnlyDiff.{Allowed, Names, DiffOf}
use Rattle.diff.specs.MergedDiff.{effect}
use Rattle.diff.proofs.Prices.{applied_named, applied_unnamed, apply_at, names_past}
use Rattle.diff.proofs.OnlyDiff.{allowed_ascends}

-- ---- one label

-- a label that is named alike, and then set to the same price
pub applied_alike : (ps qs : List Price) (label old : ℕ) → names ps label ≡ names qs label
    → (names ps label ≡ true → applied_at ps label 0 ≡ applied_at qs label 0)
    → applied_at ps label old ≡ applied_at qs label old
applied_alike ps qs label old named priced = go (names ps label) refl
  where
    go : (is : Bool) → names ps label ≡ is → applied_at ps label old ≡ applied_at qs label old
    go true is =
        applied_named ps label old 0 is ∙ priced is ∙ applied_named qs label 0 old (sym named ∙ is)
    go false un = applied_unnamed ps label old un ∙ sym (applied_unnamed qs label old (sym named ∙ un))

module _ (label : ℕ) where
  -- one that is named is set, whatever it was; one that is not is kept
  set_and_kept : (ps qs : List Price) → ((old : ℕ) → applied_at ps label old ≡ applied_at qs label old)
      → names ps label ≡ true → names qs label ≡ false → ⊥
  set_and_kept ps qs same named unnamed =
      omega (
        arith,
        applied_named ps label 0 1 named,
        same 0 ∙ applied_unnamed qs label 0 unnamed,
        same 1 ∙ applied_unnamed qs label 1 unnamed,
      )

  named_alike : (ps qs : List Price) → ((old : ℕ) → applied_at ps label old ≡ applied_at qs label old)
      → names ps label ≡ names qs label
  named_alike ps qs same = go (names ps label) refl (names qs label) refl
    where
      go : (is : Bool) → names ps label ≡ is → (is' : Bool) → names qs label ≡ is' → is ≡ is'
      go true is true is' = refl
      go true is false un = absurd (set_and_kept ps qs same is un)
      go false un true is = absurd (set_and_kept qs ps (λ old. sym (same old)) is un)
      go false un false un' = refl

-- ---- pages

-- pages that show one price everywhere tell what is done to a label
applied_everywhere : (ps : List Price) (n label old : ℕ) → label < n
    → get_or (apply_prices ps (replicate n old)) label 0 ≡ applied_at ps label old
applied_everywhere ps n label old below =
    apply_at ps (replicate n old) label (rw (length-replicate n old) below)
    ∙ ap (applied_at ps label) (get_or-replicate n label old 0 below)

-- an allowed diff that does to the pages what prices do
pub effect_diff_of : (pages : ℕ) (diff : List ℕ) → Allowed pages diff → (ps : List Price)
    → ((words : List ℕ) → length words ≡ 32 * pages → effect pages diff words ≡ apply_prices ps words)
    → DiffOf pages (names ps) (λ label. applied_at ps label 0) diff
effect_diff_of pages diff allowed ps same =
    record {
      names_these = λ label below. named_alike label (prices_of pages diff) ps (λ old. applied label old below);
      at_price = λ label is. applied label 0 (named_below label is);
    }
  where
    applied : (label old : ℕ) → label < 32 * pages
        → applied_at (prices_of pages diff) label old ≡ applied_at ps label old
    applied label old below =
        sym (applied_everywhere (prices_of pages diff) (32 * pages) label old below)
        ∙ ap (λ words. get_or words label 0) (same (replicate (32 * pages) old) (length-replicate (32 * pages) old))
        ∙ applied_everywhere ps (32 * pages) label old below

    named_below : (label : ℕ) → Names pages diff label → label < 32 * pages
    named_below label is = elim (dec_lt label (32 * pages)) [
      | yes below ↦ below
      | no past ↦ absurd (true≢false (sym is ∙ names_past (allowed_ascends pages diff allowed) label (omega arith)))
    ]
