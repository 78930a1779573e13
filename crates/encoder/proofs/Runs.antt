-- The runs of a page: what the words of a page from one on bring to a diff, by the word of its marks.
use Rattle.std.specs.Prelude.{ℕ, zero, suc, ◌+◌, ◌-◌, ◌*◌, ◌/◌, ◌%◌, ◌^◌, ◌≤◌, ◌<◌, ◌≡◌, ◌≢◌, List, [], ◌∷◌, ◌++◌, Bool}
use Rattle.std.specs.Prelude.{true, false, length, take, drop, get_or}
use Rattle.laws.proofs.Prelude.{refl, sym, ap, ◌∙◌, arith, dec_lt, eq-eqb, ne_eqb}
use native.Mathlib.Nat.{add-zero, div-one}
use native.Mathlib.Numerals.{add-one}
use lib.Pow.{shr_le}
use lib.Seq.{drop-cons}
use Rattle.diff.specs.Format.{page_word, run_word}
use Rattle.diff.specs.declared.Price.{Price}
use Rattle.diff.specs.Prices.{label_of}
use Rattle.diff.specs.Encoding.{follows, listed, run_length, run_header, encode_from}
use Rattle.diff.specs.Marks.{bit}
use Rattle.diff.proofs.Bits.{bit_shifted}
use Rattle.diff.proofs.Encoding.{Ascending, none, more, follows_page, follows_word, follows_yes, run_goes_on, run_stops}
use Rattle.diff.proofs.Encoding.{run_last, run_header_page, run_header_run, run_header_none, encode_none, encode_price}
use Rattle.diff.proofs.Listed.{listed_none, listed-take, listed-append, listed_unnamed, listed_ascends}
use Rattle.encoder.proofs.Bits.{first_run}
use Rattle.encoder.specs.Page.{marked_by, priced_by, page_words, run_words, FirstRun, Run}

-- no bit is set where nothing is left of a word after a shift
pub bit_behind : (word by w : ℕ) → word / 2 ^ by ≡ 0 → by ≤ w → bit word w ≡ 0
bit_behind word by w none_left behind =
    let at : w ≡ by + (w - by) = omega arith in
    let left = shr_le (word / 2 ^ by) (w - by) in
    rw at (sym (bit_shifted word by (w - by)) ∙ omega arith)

-- ---- prices of a page that do not follow the label before them

-- no run goes on with them
run_alone : {pages next : ℕ} (p : Price) {ps : List Price} → Ascending pages next ps → label_of p + 1 < next
    → run_length p ps ≡ 1
run_alone p none apart = run_last p
run_alone {next = next} p (more {p = q} {ps = qs} up word _ rest) apart = go (follows p q) refl
  where
    go : (on : Bool) → follows p q ≡ on → run_length p (q ∷ qs) ≡ 1
    go true on = absurd (omega (arith, follows_page p q on, follows_word p q on))
    go false off = run_stops p q qs off

-- their words are those of a page without its page word
without_page : (page next : ℕ) {ps : List Price} → Ascending (page + 1) (next + 1) ps → 32 * page < next
    → encode_from next ps ≡ drop 1 (encode_from 0 ps)
without_page page next none on = rw (encode_none next, encode_none 0)
without_page page next (more {p = p} {ps = ps} up word below rest) on =
    let run = run_length p ps in
    encode_price next p ps _ (run_header_run next p run (omega arith) (omega arith))
    ∙ sym (ap (drop 1) (encode_price 0 p ps _ (run_header_page 0 p run (omega arith))))

-- ---- the marked words of a page from a word on

module _ (page marks : ℕ) (prices : List ℕ) where
  -- a word's price, and those of the marked words from one on
  abbrev price_of : ℕ → Price
  price_of word = record { page = page; word = word; price = get_or prices word 0 }

  abbrev marked_from : ℕ → List Price
  marked_from word = listed (marked_by marks) (priced_by prices) (32 * page + word) (32 - word)

  -- the words of their runs: all but the page word
  abbrev pub runs_from : ℕ → List ℕ
  runs_from word = drop 1 (encode_from 0 (marked_from word))

  -- words that are not marked, and one that is
  unmarked : (word n : ℕ) → word + n ≤ 32 → ((w : ℕ) → w < n → bit marks (word + w) ≡ 0)
      → listed (marked_by marks) (priced_by prices) (32 * page + word) n ≡ []
  unmarked word n fits none_marked = listed_unnamed (marked_by marks) (priced_by prices) (32 * page + word) n unnamed
    where
      unnamed : (i : ℕ) → 32 * page + word ≤ i → i < 32 * page + word + n → marked_by marks i ≡ false
      unnamed i above below =
          let at : i % 32 ≡ word + (i - (32 * page + word)) = omega arith in
          let zero : bit marks (i % 32) ≡ 0 = rw at (none_marked (i - (32 * page + word)) (omega arith)) in
          ne_eqb (bit marks (i % 32)) 1 (omega (arith, zero))

  marked_skip : (word n : ℕ) → word + n ≤ 32 → ((w : ℕ) → w < n → bit marks (word + w) ≡ 0)
      → marked_from word ≡ marked_from (word + n)
  marked_skip word n fits none_marked =
      let first = 32 * page + word in
      let parts : 32 - word ≡ n + (32 - (word + n)) = omega arith in
      let at : first + n ≡ 32 * page + (word + n) = omega arith in
      rw (parts, listed-append (marked_by marks) (priced_by prices) first n (32 - (word + n)), unmarked word n fits none_marked, at)

  marked-take : (word : ℕ) → word < 32 → bit marks word ≡ 1 → marked_from word ≡ price_of word ∷ marked_from (word + 1)
  marked-take word within marked =
      let first = 32 * page + word in
      let many : 32 - word ≡ suc (32 - (word + 1)) = omega arith in
      let here : first % 32 ≡ word = omega arith in
      let on : first / 32 ≡ page = omega arith in
      let at : first + 1 ≡ 32 * page + (word + 1) = omega arith in
      let is : marked_by marks first ≡ true = rw here (eq-eqb (bit marks word) 1 marked) in
      rw (many, listed-take (marked_by marks) (priced_by prices) first (32 - (word + 1)) is, at, on, here)

  -- the words from one on that is not marked, or from the end of the page on
  unmarked_ascends : (word : ℕ) → word ≤ 32 → (word < 32 → bit marks word ≡ 0)
      → Ascending (page + 1) (32 * page + word + 1) (marked_from word)
  unmarked_ascends word fits ends = go (dec_lt word 32)
    where
      go : Dec (word < 32) → Ascending (page + 1) (32 * page + word + 1) (marked_from word)
      go (yes within) =
          let at : 32 * page + word + 1 ≡ 32 * page + (word + 1) = omega arith in
          rw (at, marked_skip word 1 (omega arith) (λ w below. ap (bit marks) (omega arith) ∙ ends within))
          (listed_ascends (marked_by marks) (priced_by prices) (page + 1) (32 * page + (word + 1)) (32 - (word + 1)) (omega arith))
      go (no past) =
          let none_left : 32 - word ≡ 0 = omega arith in
          rw (none_left, listed_none (marked_by marks) (priced_by prices) (32 * page + word)) none

  -- ---- a run: its words are marked, the one behind it is not

  record MarkedRun (first count : ℕ) : Type 0 where
    within : first + count ≤ 32
    marked : (w : ℕ) → w < count → bit marks (first + w) ≡ 1
    ends : first + count < 32 → bit marks (first + count) ≡ 0

  -- its first word, and the run from its second on
  first-marked : {n : ℕ} (word : ℕ) → MarkedRun word (suc n) → marked_from word ≡ price_of word ∷ marked_from (word + 1)
  first-marked word run =
      marked-take word (omega (arith, run.within)) (ap (bit marks) (omega arith) ∙ run.marked 0 (omega arith))

  shorter : {n : ℕ} (word : ℕ) → MarkedRun word (suc n) → MarkedRun (word + 1) n
  shorter word run =
      record {
        within = omega (arith, run.within);
        marked = λ w below. ap (bit marks) (omega arith) ∙ run.marked (suc w) (omega arith);
        ends = λ within. ap (bit marks) (omega arith) ∙ run.ends (omega arith);
      }

  -- its length
  run_counted : (n word : ℕ) → MarkedRun word (suc n) → run_length (price_of word) (marked_from (word + 1)) ≡ suc n
  run_counted zero word run =
      run_alone (price_of word) (unmarked_ascends (word + 1) run.within run.ends) (omega arith)
  run_counted (suc n) word run =
      let on = follows_yes (price_of word) (price_of (word + 1)) refl refl in
      rw (first-marked (word + 1) (shorter word run))
      (run_goes_on (price_of word) (price_of (word + 1)) (marked_from (word + 1 + 1)) on
      ∙ ap suc (run_counted n (word + 1) (shorter word run)))

  -- its first price with what stands before it
  encode-first : {n : ℕ} (next word : ℕ) → MarkedRun word (suc n) → (ws : List ℕ)
      → run_header next (price_of word) (suc n) ≡ ws
      → encode_from next (marked_from word)
      ≡ ws ++ get_or prices word 0 ∷ encode_from (32 * page + (word + 1)) (marked_from (word + 1))
  encode-first {n} next word run ws header =
      let later = marked_from (word + 1) in
      let at : 32 * page + word + 1 ≡ 32 * page + (word + 1) = omega arith in
      rw (first-marked word run, encode_price next (price_of word) later ws (rw (run_counted n word run) header), at)

  -- all its prices: they stand one after the other
  run_prices_lem : (n word : ℕ) → MarkedRun word (suc n) → length prices ≡ 32
      → get_or prices word 0 ∷ encode_from (32 * page + (word + 1)) (marked_from (word + 1))
      ≡ take (suc n) (drop word prices) ++ runs_from (word + suc n)
  run_prices_lem zero word run size =
      let apart = unmarked_ascends (word + 1) run.within run.ends in
      rw (
        drop-cons prices word 0 (omega (arith, run.within)),
        without_page page (32 * page + (word + 1)) apart (omega arith),
      )
  run_prices_lem (suc n) word run size =
      let next = 32 * page + (word + 1) in
      let rest = shorter word run in
      let header = run_header_none next (price_of (word + 1)) (suc n) (omega arith) refl in
      let at : word + suc (suc n) ≡ word + 1 + suc n = omega arith in
      let first : drop word prices ≡ get_or prices word 0 ∷ drop (word + 1) prices =
      rw (add-one word) (drop-cons prices word 0 (omega (arith, run.within)))
      in
      rw (first, at)
      (ap (λ ws. get_or prices word 0 ∷ ws)
      (encode-first next (word + 1) rest [] header ∙ run_prices_lem n (word + 1) rest size))

  -- all its words, behind the page word
  run_words_lem : (count word : ℕ) → 0 < count → MarkedRun word count → length prices ≡ 32
      → encode_from 0 (marked_from word)
      ≡ page_word page ∷ run_word word count ∷ take count (drop word prices) ++ runs_from (word + count)
  run_words_lem zero word some run size = absurd (omega arith)
  run_words_lem (suc n) word some run size =
      let header = run_header_page 0 (price_of word) (suc n) (omega arith) in
      encode-first 0 word run _ header
      ∙ ap (λ ws. page_word page ∷ run_word word (suc n) ∷ ws) (run_prices_lem n word run size)

  -- ---- the runs from a word on, by the marks that are left there

  module _ (word : ℕ) where
    -- none is left
    words_none : marks / 2 ^ word ≡ 0 → word ≤ 32 → encode_from 0 (marked_from word) ≡ []
    words_none none_left within =
        ap (encode_from 0) (unmarked word (32 - word) (omega arith) none_marked) ∙ encode_none 0
      where
        none_marked : (w : ℕ) → w < 32 - word → bit marks (word + w) ≡ 0
        none_marked w below = bit_behind marks word (word + w) none_left (omega arith)

    pub runs_none : marks / 2 ^ word ≡ 0 → word ≤ 32 → runs_from word ≡ []
    runs_none none_left within = ap (drop 1) (words_none none_left within)

    -- the first run with its prices, and the runs behind it
    module _ (run : Run) (is : FirstRun (marks / 2 ^ word) run) (small : marks < 2 ^ 32) (size : length prices ≡ 32)
      where
        abbrev first : ℕ
        first = word + run.offset

        all_marked : (w : ℕ) → w < run.count → bit marks (first + w) ≡ 1
        all_marked w below =
            ap (bit marks) (omega arith) ∙ sym (bit_shifted marks word (run.offset + w)) ∙ is.all_marked w below

        pub run_within : first + run.count ≤ 32
        run_within = go (dec_lt 32 (first + run.count))
          where
            go : Dec (32 < first + run.count) → first + run.count ≤ 32
            go (yes past) =
                let last = run.count - 1 in
                let zero = bit_behind marks 32 (first + last) (omega arith) (omega arith) in
                absurd (omega (arith, zero, all_marked last (omega (arith, is.some))))
            go (no within) = omega arith

        whole : MarkedRun first run.count
        whole =
            record {
              within = run_within;
              marked = all_marked;
              ends = λ within.
                  ap (bit marks) (omega arith) ∙ sym (bit_shifted marks word (run.offset + run.count))
                  ∙ is.none_behind (omega arith);
            }

        words_first : encode_from 0 (marked_from word)
            ≡ page_word page ∷ run_word first run.count
            ∷ take run.count (drop first prices) ++ runs_from (first + run.count)
        words_first =
            let none_before : (w : ℕ) → w < run.offset → bit marks (word + w) ≡ 0 =
            λ w below. sym (bit_shifted marks word w) ∙ is.none_before w below
            in
            rw (marked_skip word run.offset (omega (arith, run_within)) none_before)
            (run_words_lem run.count first is.some whole size)

        pub runs_first : runs_from word
            ≡ run_word first run.count ∷ take run.count (drop first prices) ++ runs_from (first + run.count)
        runs_first = ap (drop 1) words_first

  -- ---- all words of the page

  -- none without marks, else the page word and the runs
  page_words_lem : page_words page marks prices ≡ encode_from 0 (marked_from 0)
  unfolding page_words
  page_words_lem = rw (add-zero (32 * page))

  pub runs_all : run_words page marks prices ≡ runs_from 0
  runs_all = ap (drop 1) page_words_lem

  pub page_words_none : marks ≡ 0 → page_words page marks prices ≡ []
  page_words_none none_marked = page_words_lem ∙ words_none 0 (omega (arith, div-one marks)) (omega arith)

  pub page_words_some : {run : Run} → FirstRun marks run → marks < 2 ^ 32 → length prices ≡ 32
      → page_words page marks prices ≡ page_word page ∷ run_words page marks prices
  page_words_some {run} is small size =
      let words = page_words_lem ∙ words_first 0 run (rw (div-one marks) is) small size in
      words ∙ ap (λ ws. page_word page ∷ ws) (sym (ap (drop 1) words))

  pub page_words_marked : marks ≢ 0 → marks < 2 ^ 32 → length prices ≡ 32
      → page_words page marks prices ≡ page_word page ∷ run_words page marks prices
  page_words_marked some small size = page_words_some (first_run marks (omega arith) small) small size
