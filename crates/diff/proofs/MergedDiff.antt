-- The merged diff: the one diff that does what the first and then the second do. It is the listed diff of the prices of
-- both, one after the other; on a rack with fewer pages that allows both it is the same list.
use Rattle.std.specs.Prelude.{ℕ, ◌+◌, ◌-◌, ◌*◌, ◌≤◌, ◌<◌, ◌≡◌, List, [], ◌++◌, Bool, true, false, length, get_or}
use Rattle.laws.proofs.Prelude.{refl, sym, ap, ◌∙◌, arith, dec_lt}
use mathlib.Core.List.{append-nil}
use lib.Seq.{ext_get_or}
use Rattle.diff.specs.Format.{most_words}
use Rattle.diff.specs.Prices.{Price, prices_of, names, applied_at, apply_prices}
use Rattle.diff.specs.Encoding.{listed, listed_diff, encode}
use Rattle.diff.specs.OnlyDiff.{Allowed, DiffOf, OneDiff}
use Rattle.diff.specs.Merging.{merge_pages, either_names, last_price, merged_diff}
use Rattle.diff.specs.MergedDiff.{effect, DoesBoth, MergedOfTwo}
use Rattle.diff.proofs.Prices.{names-append, names_past, applied_append, applied_named, applied_unnamed}
use Rattle.diff.proofs.Prices.{apply_append, apply_at, length_apply}
use Rattle.diff.proofs.Listed.{listed-append, listed_unnamed}
use Rattle.diff.proofs.OnlyDiff.{allowed_ascends, more_prices, one_diff_for_prices}
use Rattle.diff.proofs.Effects.{applied_alike, effect_diff_of}

-- ---- prices one after the other

-- a label's price is the last one
pub last_in_turn : (p q : List Price) (label : ℕ) → last_price p q label ≡ applied_at q label (applied_at p label 0)
last_in_turn p q label = go (names q label) refl
  where
    go : (is : Bool) → names q label ≡ is → last_price p q label ≡ applied_at q label (applied_at p label 0)
    go true is = rw is (applied_named q label 0 (applied_at p label 0) is)
    go false un = rw un (sym (applied_unnamed q label (applied_at p label 0) un))

price_of_both : (p q : List Price) (label : ℕ) → applied_at (p ++ q) label 0 ≡ last_price p q label
price_of_both p q label = applied_append p q label 0 ∙ sym (last_in_turn p q label)

pub merged_list : (first second : List ℕ)
    → merged_diff first second
    ≡ listed_diff (either_names (prices_of merge_pages first) (prices_of merge_pages second))
    (last_price (prices_of merge_pages first) (prices_of merge_pages second)) (32 * merge_pages)
unfolding merged_diff
merged_list first second = refl

-- ---- on a rack that allows both

module _ (pages : ℕ) (few : pages ≤ 64) (first second : List ℕ) (allowed : Allowed pages first)
    (allowed' : Allowed pages second) where
  abbrev p : List Price
  p = prices_of pages first

  abbrev q : List Price
  q = prices_of pages second

  abbrev merged : List ℕ
  merged = merged_diff first second

  either_past : (label : ℕ) → 32 * pages ≤ label → either_names p q label ≡ false
  either_past label past =
      rw (
        names_past (allowed_ascends pages first allowed) label past,
        names_past (allowed_ascends pages second allowed') label past,
      )

  -- no label past the pages is named, so that those of the pages are all
  listed_pages : listed (either_names p q) (last_price p q) 0 (32 * merge_pages)
      ≡ listed (either_names p q) (last_price p q) 0 (32 * pages)
  listed_pages =
      let past = 32 * merge_pages - 32 * pages in
      let all : 32 * merge_pages ≡ 32 * pages + past = omega arith in
      ap (listed (either_names p q) (last_price p q) 0) all
      ∙ listed-append (either_names p q) (last_price p q) 0 (32 * pages) past
      ∙ rw none_past (append-nil (listed (either_names p q) (last_price p q) 0 (32 * pages)))
    where
      none_past : listed (either_names p q) (last_price p q) (0 + 32 * pages) (32 * merge_pages - 32 * pages) ≡ []
      none_past =
          listed_unnamed (either_names p q) (last_price p q) (0 + 32 * pages) (32 * merge_pages - 32 * pages)
          (λ i low high. either_past i (omega arith))

  merged-listed : merged ≡ listed_diff (either_names p q) (last_price p q) (32 * pages)
  merged-listed =
      merged_list first second
      ∙ rw (more_prices few first allowed, more_prices few second allowed') (ap encode listed_pages)

  one : OneDiff pages (either_names p q) (last_price p q)
  one = one_diff_for_prices pages (either_names p q) (last_price p q) few

  -- an allowed diff with both effects is the merged one, which is then no longer than it
  pub only_both : (diff : List ℕ) → Allowed pages diff → DoesBoth pages first second diff → diff ≡ merged
  only_both diff diff-allowed both = one.only diff diff-allowed diff_of ∙ sym merged-listed
    where
      of_both : DiffOf pages (names (p ++ q)) (λ label. applied_at (p ++ q) label 0) diff
      of_both =
          effect_diff_of pages diff diff-allowed (p ++ q) (λ words long. both words long ∙ sym (apply_append p q words))

      diff_of : DiffOf pages (either_names p q) (last_price p q) diff
      diff_of =
          record {
            names_these = λ label below. of_both.names_these label below ∙ names-append p q label;
            at_price = λ label is. of_both.at_price label is ∙ price_of_both p q label;
          }

  module _ (short : length merged ≤ most_words) where
    short_listed : length (listed_diff (either_names p q) (last_price p q) (32 * pages)) ≤ most_words
    short_listed = rw (← merged-listed) short

    merged_allowed : Allowed pages merged
    merged_allowed = rw merged-listed (one.allowed short_listed)

    merged_diff_of : DiffOf pages (either_names p q) (last_price p q) merged
    merged_diff_of = rw merged-listed (one.is_diff_of short_listed)

    merged-names : (label : ℕ) → names (prices_of pages merged) label ≡ either_names p q label
    merged-names label = elim (dec_lt label (32 * pages)) [
      | yes below ↦ merged_diff_of.names_these label below
      | no past ↦
          names_past (allowed_ascends pages merged merged_allowed) label (omega arith)
          ∙ sym (either_past label (omega arith))
    ]

    -- it does to a label what the prices of both do, one after the other
    pub merged_applied : (label old : ℕ) → applied_at (prices_of pages merged) label old ≡ applied_at (p ++ q) label old
    merged_applied label old =
        applied_alike (prices_of pages merged) (p ++ q) label old (merged-names label ∙ sym (names-append p q label))
        (λ is. merged_diff_of.at_price label is ∙ sym (price_of_both p q label))

    does_both : (words : List ℕ) → effect pages merged words ≡ effect pages second (effect pages first words)
    does_both words = in_turn_lem ∙ apply_append p q words
      where
        in_turn_lem : apply_prices (prices_of pages merged) words ≡ apply_prices (p ++ q) words
        in_turn_lem =
            ext_get_or 0 (apply_prices (prices_of pages merged) words) (apply_prices (p ++ q) words)
            (length_apply (prices_of pages merged) words ∙ sym (length_apply (p ++ q) words))
            (λ label within.
            let inside : label < length words = rw (length_apply (prices_of pages merged) words) at within in
            apply_at (prices_of pages merged) words label inside ∙ merged_applied label (get_or words label 0)
            ∙ sym (apply_at (p ++ q) words label inside))

    pub merged_of_two : MergedOfTwo pages first second
    merged_of_two =
        record {
          allowed = merged_allowed;
          does_both = does_both;
          names_either = merged-names;
          only = only_both;
        }
