-- For each set of labels and their prices one allowed diff: an allowed diff is the encoding of ascending prices, and
-- these are told apart by the labels that they name and the prices that they set.
use Rattle.std.specs.Prelude.{ℕ, ◌+◌, ◌-◌, ◌*◌, ◌≤◌, ◌≡◌, List, Bool, true, false, cond, length, ltb, Ok, Err}
use Rattle.laws.proofs.Prelude.{refl, sym, ap, ◌∙◌, arith, dec_lt, ltb-false, le-ltb}
use native.Mathlib.Nat.{zero-add}
use lib.ListN.{length-append}
use Rattle.answer.specs.Outcome.{given, refused_at, faulty_list}
use Rattle.diff.specs.Format.{most_words}
use Rattle.diff.specs.Reading.{Verdict, Extent, start, read_diff, whole_diff, check_diff}
use Rattle.diff.specs.Prices.{Price, prices_of, names, applied_at}
use Rattle.diff.specs.Encoding.{encode_from, encode, listed, listed_diff}
use Rattle.diff.specs.OnlyDiff.{Allowed, DiffOf, OneDiffForPrices}
use Rattle.diff.proofs.Derivation.{Reads, ReadsWhole, good_within, reads_good, reads_prices, reads_derived}
use Rattle.diff.proofs.Derivation.{reads_some, reads_more_pages}
use Rattle.diff.proofs.Stored.{good_few}
use Rattle.diff.proofs.Encoding.{Ascending}
use Rattle.diff.proofs.Coded.{BetweenRuns, reads_coded}
use Rattle.diff.proofs.Decoded.{decoded}
use Rattle.diff.proofs.Prices.{names_past}
use Rattle.diff.proofs.SamePrices.{SamePrices, ascending_same}
use Rattle.diff.proofs.Listed.{listed_ascends, listed-names, listed_applied}

-- ---- an allowed diff

-- what a list that is allowed is read as
pub allowed_whole : (pages : ℕ) (diff : List ℕ) → Allowed pages diff → (k : ℕ) × ReadsWhole pages k diff 0 start
unfolding check_diff
allowed_whole pages diff ok = go (read_diff pages diff) refl ok
  where
    go : (v : Verdict) → read_diff pages diff ≡ v → (whole_diff (length diff) v).number ≡ 0
        → (k : ℕ) × ReadsWhole pages k diff 0 start
    go (Ok e) read passed =
        let all : e.words ≡ 0 + length diff = omega
        (arith, good_within pages e.prices e.words diff start 0 read, past e (ltb e.words (length diff)) refl passed) in
        (e.prices, rw (← all) read)
      where
        past : (e : Extent) (cut : Bool) → ltb e.words (length diff) ≡ cut
            → (cond cut (refused_at faulty_list e.words) (given e.prices)).number ≡ 0 → length diff ≤ e.words
        past e true cut passed = absurd (omega arith)
        past e false whole passed = ltb-false e.words (length diff) whole
    go (Err error) read e = absurd (omega arith)

pub allowed_few : (pages : ℕ) (diff : List ℕ) → Allowed pages diff → length diff ≤ 512
allowed_few pages diff allowed =
    let whole = allowed_whole pages diff allowed in
    omega (arith, (good_few pages _ _ diff start 0 whole.1 (omega arith) (omega arith)).1)

pub whole_allowed : (pages : ℕ) (diff : List ℕ) (k : ℕ) → ReadsWhole pages k diff 0 start → Allowed pages diff
unfolding check_diff
whole_allowed pages diff k whole = rw (whole, zero-add) (rw (le-ltb (length diff) (length diff) (omega arith)))

-- ---- an allowed diff is the encoding of its prices, which ascend

module _ (pages : ℕ) (diff : List ℕ) (allowed : Allowed pages diff) where
  allowed_reads : Reads pages start 0 diff (prices_of pages diff)
  unfolding prices_of
  allowed_reads =
      let whole = allowed_whole pages diff allowed in
      reads_derived pages whole.0 diff start 0 whole.1

  -- the index of its end word
  last : ℕ
  last = length diff - 1

  allowed_coded : BetweenRuns pages last 0 start diff (prices_of pages diff)
  unfolding last
  allowed_coded =
      let some = reads_some allowed_reads in
      (reads_coded pages last allowed_reads (omega arith)).between refl (omega arith) (omega arith) 0 (omega arith)
      (λ named. absurd (omega arith))

  pub allowed_ascends : Ascending pages 0 (prices_of pages diff)
  allowed_ascends = allowed_coded.up

  allowed_encodes : diff ≡ encode (prices_of pages diff)
  unfolding last
  allowed_encodes =
      let some = reads_some allowed_reads in
      let end : last ≡ length (encode_from 0 (prices_of pages diff)) = omega
      (arith, simp length-append at (ap length allowed_coded.code)) in
      allowed_coded.code ∙ rw end

-- a rack with more pages reads the same prices
module _ {pages pages' : ℕ} (more : pages ≤ pages') (diff : List ℕ) (allowed : Allowed pages diff) where
  few_words : 0 + length diff ≤ most_words
  few_words = omega (arith, allowed_few pages diff allowed)

  reads_more : Reads pages' start 0 diff (prices_of pages diff)
  reads_more = reads_more_pages more (allowed_reads pages diff allowed)

  pub more_prices : prices_of pages' diff ≡ prices_of pages diff
  unfolding prices_of
  more_prices = reads_prices pages' reads_more few_words

-- ---- the encoding of ascending prices is allowed, and has these prices

module _ {pages : ℕ} {ps : List Price} (few : pages ≤ 64) (up : Ascending pages 0 ps)
    (short : length (encode ps) ≤ most_words) where
  encode_reads : Reads pages start 0 (encode ps) ps
  encode_reads = decoded pages (length (encode_from 0 ps)) (omega (arith, few)) up refl

  encode_allowed : Allowed pages (encode ps)
  encode_allowed =
      whole_allowed pages (encode ps) (0 + length ps) (reads_good pages encode_reads (omega (arith, short)))

  encode_prices : prices_of pages (encode ps) ≡ ps
  unfolding prices_of
  encode_prices = reads_prices pages encode_reads (omega (arith, short))

-- ---- the listed diff

module _ (pages : ℕ) (named : ℕ → Bool) (price : ℕ → ℕ) where
  listed_up : Ascending pages 0 (listed named price 0 (32 * pages))
  listed_up = listed_ascends named price pages 0 (32 * pages) (omega arith)

  pub listed_prices : pages ≤ 64 → length (listed_diff named price (32 * pages)) ≤ most_words
      → prices_of pages (listed_diff named price (32 * pages)) ≡ listed named price 0 (32 * pages)
  listed_prices few short = encode_prices few listed_up short

  listed_is_diff_of : pages ≤ 64 → length (listed_diff named price (32 * pages)) ≤ most_words
      → DiffOf pages named price (listed_diff named price (32 * pages))
  listed_is_diff_of few short =
      record {
        names_these = λ label below.
            rw (listed_prices few short)
            (listed-names named price 0 (32 * pages) label (omega arith) (omega arith));
        at_price = λ label is.
            rw (listed_prices few short)
            (listed_applied named price 0 (32 * pages) label 0 (rw (listed_prices few short) at is));
      }

  -- a diff of just these labels has the same prices
  same_as_listed : (diff : List ℕ) → Allowed pages diff → DiffOf pages named price diff
      → SamePrices (prices_of pages diff) (listed named price 0 (32 * pages))
  same_as_listed diff allowed is = record { named = agree; priced = priced }
    where
      agree : (label : ℕ) → names (prices_of pages diff) label ≡ names (listed named price 0 (32 * pages)) label
      agree label = elim (dec_lt label (32 * pages)) [
        | yes below ↦
            is.names_these label below
            ∙ sym (listed-names named price 0 (32 * pages) label (omega arith) (omega arith))
        | no past ↦
            names_past (allowed_ascends pages diff allowed) label (omega arith)
            ∙ sym (names_past listed_up label (omega arith))
      ]

      priced : (label : ℕ) → names (prices_of pages diff) label ≡ true
          → applied_at (prices_of pages diff) label 0 ≡ applied_at (listed named price 0 (32 * pages)) label 0
      priced label named-it =
          is.at_price label named-it
          ∙ sym (listed_applied named price 0 (32 * pages) label 0 (sym (agree label) ∙ named-it))

pub one_diff_for_prices : OneDiffForPrices
one_diff_for_prices pages named price few =
    record {
      allowed = encode_allowed few (listed_up pages named price);
      is_diff_of = listed_is_diff_of pages named price few;
      only = λ diff allowed is.
          allowed_encodes pages diff allowed
          ∙ ap encode
          (ascending_same (allowed_ascends pages diff allowed) (listed_up pages named price)
          (same_as_listed pages named price diff allowed is));
    }
