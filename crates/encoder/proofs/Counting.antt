-- How many words a page takes in a diff, by its marks: its page word, a word for each run and a price for each mark.
-- The runs are counted by their ends, the marked words whose next word is not.
use Rattle.std.specs.Prelude.{ℕ, zero, suc, ◌+◌, ◌-◌, ◌*◌, ◌/◌, ◌%◌, ◌^◌, ◌<◌, ◌≤◌, ◌≡◌, List, length}
use Rattle.laws.proofs.Prelude.{refl, ap, ◌∙◌, arith, ne_eqb, eq-eqb, ℕ_discrete}
use Prim.Native.Nat.{min}
use native.Mathlib.Nat.{lt_of_le_of_lt, div-one, add-zero}
use lib.Bits.{bit_and, and_step, and_shr, and_le_l}
use lib.Count.{ones, ones_step, ones-le, ones_cat}
use lib.ListN.{length-append}
use lib.Pow.{shr-shr, shr_lt}
use Rattle.diff.specs.declared.Price.{Price}
use Rattle.diff.specs.Encoding.{price_at, listed, encode_from, run_header, run_length}
use Rattle.diff.specs.Marks.{bit}
use Rattle.diff.proofs.Listed.{label_at_lem, listed_none, listed_skip, listed-take}
use Rattle.diff.proofs.Encoding.{encode_none, encode_price, run_header_page, run_header_run, run_header_none}
use Rattle.encoder.specs.Page.{marked_by, priced_by, page_words}
use Rattle.encoder.proofs.Bits.{complement, complement_half, complement_first}

-- ---- runs and marks of so many words, lowest bit first

-- the last word of each run
abbrev pub run_ends : ℕ → ℕ → ℕ
run_ends words marks = bit_and marks (complement words (marks / 2))

-- how many runs and marks there are
abbrev pub runs_and_marks : ℕ → ℕ → ℕ
runs_and_marks words marks = ones (run_ends words marks) + ones marks

module _ (words marks : ℕ) (small : marks < 2 ^ words) where
  pub run_ends_small : run_ends words marks < 2 ^ words
  run_ends_small = lt_of_le_of_lt (and_le_l marks (complement words (marks / 2))) small

  pub runs_and_marks_most : runs_and_marks words marks ≤ words + words
  runs_and_marks_most = omega (arith, ones-le words marks small, ones-le words (run_ends words marks) run_ends_small)

  -- both counted at once, side by side
  pub runs_and_marks_ones : ones (run_ends words marks * 2 ^ words + marks) ≡ runs_and_marks words marks
  runs_and_marks_ones = ones_cat words (run_ends words marks) marks small

-- the first word and those behind it: its run ends here if the next word is not marked
module _ (words marks : ℕ) (small : marks < 2 ^ suc words) where
  ends_half : run_ends (suc words) marks / 2 ≡ run_ends words (marks / 2)
  ends_half =
      and_shr marks (complement (suc words) (marks / 2)) 1
      ∙ ap (bit_and (marks / 2)) (complement_half words (marks / 2) (omega arith))

  ends_first : run_ends (suc words) marks % 2 ≡ min (marks % 2) (1 - marks / 2 % 2)
  ends_first =
      omega (
        arith,
        and_step marks (complement (suc words) (marks / 2)),
        complement_first words (marks / 2) (omega arith),
      )

  runs_and_marks_step : runs_and_marks (suc words) marks
      ≡ marks % 2 + min (marks % 2) (1 - marks / 2 % 2) + runs_and_marks words (marks / 2)
  runs_and_marks_step =
      omega (arith, ones_step marks, ones_step (run_ends (suc words) marks), ends_first, ap ones ends_half)

-- ---- the words of a page

module _ (page marks : ℕ) (prices : List ℕ) where
  abbrev label_at : ℕ → ℕ
  label_at w = 32 * page + w

  -- how many words of a diff n words of the page bring, w first; `next` is one more than the label named last
  abbrev words_from : ℕ → ℕ → ℕ → ℕ
  words_from next w n = length (encode_from next (listed (marked_by marks) (priced_by prices) (label_at w) n))

  bit_of : (w : ℕ) → w < 32 → bit marks (label_at w % 32) ≡ bit marks w
  bit_of w within = ap (bit marks) (omega arith)

  next_label : (w : ℕ) → label_at w + 1 ≡ label_at (suc w)
  next_label w = omega arith

  -- how many words stand before a price on word w
  abbrev Headed : ℕ → ℕ → ℕ → Type 0
  Headed next w header = (price run : ℕ) → length (run_header next (price_at (label_at w) price) run) ≡ header

  -- no word, one that is not marked, one that is
  words_none : (next w : ℕ) → words_from next w 0 ≡ 0
  words_none next w = rw (listed_none (marked_by marks) (priced_by prices) (label_at w), encode_none next)

  words_unmarked : (next w n : ℕ) → w < 32 → bit marks w ≡ 0 → words_from next w (suc n) ≡ words_from next (suc w) n
  words_unmarked next w n within unset =
      let b = bit marks (label_at w % 32) in
      let zero : b ≡ 0 = bit_of w within ∙ unset in
      rw (listed_skip (marked_by marks) (priced_by prices) (label_at w) n (ne_eqb b 1 (λ one. omega arith)), next_label w)

  words_marked : (next w n header : ℕ) → w < 32 → bit marks w ≡ 1 → Headed next w header
      → words_from next w (suc n) ≡ header + suc (words_from (label_at (suc w)) (suc w) n)
  words_marked next w n header within set headed =
      let label = label_at w in
      let p = price_at label (priced_by prices label) in
      let rest = listed (marked_by marks) (priced_by prices) (label + 1) n in
      rw (
        listed-take (marked_by marks) (priced_by prices) label n (eq-eqb _ _ (bit_of w within ∙ set)),
        encode_price next p rest (run_header next p (run_length p rest)) refl,
        length-append (run_header next p (run_length p rest)),
        headed (priced_by prices label) (run_length p rest),
        label_at_lem label (priced_by prices label),
        next_label w,
      )

  -- The page's first price has two words before it. Another has a run word, but where it goes on with a run.
  header_first : (w : ℕ) → w < 32 → Headed 0 w 2
  header_first w within price run = rw (run_header_page 0 (price_at (label_at w) price) run (omega arith))

  abbrev continues : ℕ → ℕ → ℕ
  continues next w = 1 - (label_at w - next)

  header_later : (next w : ℕ) → w < 32 → 32 * page < next → next ≤ label_at w → Headed next w (1 - continues next w)
  header_later next w within after upto price run = go (ℕ_discrete next (label_at w))
    where
      p : Price
      p = price_at (label_at w) price

      go : Dec (next ≡ label_at w) → length (run_header next p run) ≡ 1 - continues next w
      go (yes same) = rw (run_header_none next p run (omega arith) (omega arith)) (omega arith)
      go (no apart) = rw (run_header_run next p run (omega arith) (λ same. apart (omega arith))) (omega arith)

  -- ---- what the words bring, by the runs and marks from word w on

  module _ (small : marks < 2 ^ 32) where
    fits : (w n : ℕ) → w + n ≡ 32 → marks / 2 ^ w < 2 ^ n
    fits w n all =
        let whole : n + w ≡ 32 = omega arith in
        shr_lt n w (rw whole small)

    half : (w : ℕ) → marks / 2 ^ w / 2 ≡ marks / 2 ^ suc w
    half w =
        let same : w + 1 ≡ suc w = omega arith in
        rw same at (shr-shr marks w 1)

    runs_unmarked : (w n : ℕ) → w + suc n ≡ 32 → bit marks w ≡ 0
        → runs_and_marks (suc n) (marks / 2 ^ w) ≡ runs_and_marks n (marks / 2 ^ suc w)
    runs_unmarked w n all unset =
        omega (arith, runs_and_marks_step n (marks / 2 ^ w) (fits w (suc n) all), ap (runs_and_marks n) (half w))

    runs_marked : (w n : ℕ) → w + suc n ≡ 32 → bit marks w ≡ 1
        → runs_and_marks (suc n) (marks / 2 ^ w) + bit marks (suc w) ≡ 2 + runs_and_marks n (marks / 2 ^ suc w)
    runs_marked w n all set =
        omega (arith, runs_and_marks_step n (marks / 2 ^ w) (fits w (suc n) all), half w, ap (runs_and_marks n) (half w))

    -- where a word of the page is named before them: a run that goes on is counted with the words before
    abbrev Later : ℕ → ℕ → ℕ → Type 0
    Later n w next = words_from next w n + min (continues next w) (bit marks w) ≡ runs_and_marks n (marks / 2 ^ w)

    counted_marked : (next w n header : ℕ) → w + suc n ≡ 32 → bit marks w ≡ 1 → Headed next w header
        → Later n (suc w) (label_at (suc w))
        → words_from next w (suc n) + 1 ≡ header + runs_and_marks (suc n) (marks / 2 ^ w)
    counted_marked next w n header all set headed rest =
        omega (arith, runs_marked w n all set, words_marked next w n header (omega arith) set headed)

    counted_later : (n w next : ℕ) → w + n ≡ 32 → 32 * page < next → next ≤ label_at w → Later n w next
    counted_later zero w next all after upto =
        let none = fits w 0 all in
        omega (arith, none, words_none next w, runs_and_marks_most 0 (marks / 2 ^ w) none)
    counted_later (suc n) w next all after upto =
        go (bit marks w) refl (λ next. counted_later n (suc w) next (omega arith))
      where
        go : (b : ℕ) → bit marks w ≡ b
            → ((next : ℕ) → 32 * page < next → next ≤ label_at (suc w) → Later n (suc w) next) → Later (suc n) w next
        go zero unset rest =
            let skipped = words_unmarked next w n (omega arith) unset in
            omega (arith, runs_unmarked w n all unset, skipped, rest next after (omega arith))
        go (suc zero) set rest =
            let header = header_later next w (omega arith) after upto in
            omega (arith, counted_marked next w n _ all set header (rest (label_at (suc w)) (omega arith) (omega arith)))
        go (suc (suc b)) more rest = absurd (omega arith)

    -- where none is
    abbrev First : ℕ → ℕ → Type 0
    First n w = 0 < marks / 2 ^ w → words_from 0 w n ≡ 1 + runs_and_marks n (marks / 2 ^ w)

    counted_first : (n w : ℕ) → w + n ≡ 32 → First n w
    counted_first zero w all some = absurd (omega (arith, fits w 0 all))
    counted_first (suc n) w all some = go (bit marks w) refl (counted_first n (suc w) (omega arith)) some
      where
        go : (b : ℕ) → bit marks w ≡ b → First n (suc w) → First (suc n) w
        go zero unset rest some =
            let skipped = words_unmarked 0 w n (omega arith) unset in
            omega (arith, runs_unmarked w n all unset, skipped, rest (omega (arith, half w)))
        go (suc zero) set rest some =
            let header = header_first w (omega arith) in
            let behind = counted_later n (suc w) (label_at (suc w)) (omega arith) (omega arith) (omega arith) in
            omega (arith, counted_marked 0 w n 2 all set header behind)
        go (suc (suc b)) more rest some = absurd (omega arith)

    pub length_page_words : 0 < marks → length (page_words page marks prices) ≡ 1 + runs_and_marks 32 marks
    unfolding page_words
    length_page_words some =
        rw (div-one marks, add-zero (32 * page)) at (counted_first 32 0 refl (rw (div-one marks) some))
