-- The runs that a diff has on a page, applied one after the other: which words are set on the page once so many runs are
-- applied, and that the words of the list past them are those of the runs that are left.
use Rattle.std.specs.Prelude.{ℕ, ◌+◌, ◌-◌, ◌/◌, ◌^◌, ◌≤◌, ◌<◌, ◌≡◌, ◌≢◌, List, ◌∷◌, ◌++◌, Bool, true, false, cond, ◌||◌}
use Rattle.std.specs.Prelude.{length, get_or, take, drop}
use Rattle.laws.proofs.Prelude.{sym, ap, ◌∙◌, arith, dec_lt, ℕ_discrete, true≢false}
use Rattle.laws.proofs.Lists.{get_or-sets_outside, get_or-sets_inside}
use mathlib.Core.Bool.{or_assoc, or-false, or-true}
use mathlib.Core.List.{append_assoc}
use lib.Bits.{bit_or}
use lib.ListN.{length-take, length-drop, length-append}
use lib.Pow.{shr_le}
use lib.Seq.{sets, length-sets, drop-drop, drop_at, take_at, get_or-take, get_or-drop}
use Rattle.diff.specs.Format.{kind, offset, count, page_word, run_word}
use Rattle.diff.specs.Marks.{is_set}
use Rattle.diff.proofs.Bits.{none_set}
use Rattle.encoder.specs.Page.{page_words, FirstRun}
use Rattle.encoder.proofs.Bits.{first_run}
use Rattle.encoder.proofs.Runs.{runs_from, runs_all, runs_none, runs_first, run_within, page_words_none, page_words_some}
use Rattle.merger.specs.Page.{in_range, PageAt, PageApplied}
use Rattle.merger.proofs.Words.{words_inside, word_at, words_behind}
use Rattle.merger.proofs.page.Range.{in_range_lem, below, past}
use Rattle.merger.proofs.page.Bits.{set_in_either}
use Rattle.merger.proofs.page.Below.{up_to, up_to_none, up_to_all, up_to_run}

-- ---- the runs of a page

-- those below a word are applied to the page, and those from there on stand in the list
pub record RunsApplied {list : List ℕ} {index page own : ℕ} {priced : List ℕ} (there : PageAt list index page own priced)
    (marks : ℕ) (shown : List ℕ) (after : ℕ) (prices : List ℕ) (at : ℕ) : Type 0 where
  word : ℕ
  within : word ≤ 32
  counted : at + length (runs_from page own priced word) ≡ index + length (page_words page own priced)
  words : drop at list ≡ runs_from page own priced word ++ there.behind ∷ there.rest
  pub size : length prices ≡ 32
  marked : (w : ℕ) → is_set after w ≡ (is_set marks w || up_to own word w)
  showing : (w : ℕ) → w < 32 → get_or prices w 0 ≡ cond (up_to own word w) (get_or priced w 0) (get_or shown w 0)

module _ {list : List ℕ} {index page own : ℕ} {priced : List ℕ} (there : PageAt list index page own priced) where
  pub page_inside : index < length list
  page_inside = words_inside list index (page_words page own priced) there.behind there.rest there.words

  page_word_first : own ≢ 0 → page_words page own priced ≡ page_word page ∷ runs_from page own priced 0
  page_word_first some =
      page_words_some page own priced (first_run own (omega arith) there.small) there.small there.size
      ∙ ap (λ ws. page_word page ∷ ws) (runs_all page own priced)

  -- the page word shows whether there are any
  none_marked : get_or list index 0 ≢ page_word page → own ≡ 0
  none_marked other = elim (ℕ_discrete own 0) [
    | yes none ↦ none
    | no some ↦
        absurd
        (other
        (word_at list index (there.words ∙ ap (λ ws. ws ++ there.behind ∷ there.rest) (page_word_first some))))
  ]

  some_marked : get_or list index 0 ≡ page_word page → own ≢ 0
  some_marked is none =
      there.is_no_page
      (sym
      (word_at list index
      (there.words ∙ ap (λ ws. ws ++ there.behind ∷ there.rest) (page_words_none page own priced none)))
      ∙ is)

  pub none_past : get_or list index 0 ≢ page_word page → index ≡ index + length (page_words page own priced)
  none_past other = omega (arith, ap length (page_words_none page own priced (none_marked other)))

  module _ (marks : ℕ) (shown : List ℕ) where
    pub none_applied : get_or list index 0 ≢ page_word page → PageApplied own priced marks shown marks shown
    none_applied other =
        record {
          marked = λ w. rw (none_marked other, none_set w) (sym (or-false (is_set marks w)));
          priced = λ w below. rw (none_marked other, none_set w);
        }

    pub runs_start : get_or list index 0 ≡ page_word page → length shown ≡ 32
        → RunsApplied there marks shown marks shown (index + 1)
    runs_start is size =
        let words = page_word_first (some_marked is) in
        record {
          word = 0;
          within = omega arith;
          counted = omega (arith, ap length words);
          words =
              words_behind list index (there.words ∙ ap (λ ws. ws ++ there.behind ∷ there.rest) words);
          size = size;
          marked = λ w. rw (up_to_none own w) (sym (or-false (is_set marks w)));
          showing = λ w below. rw (up_to_none own w);
        }

module _ {list : List ℕ} {index page own : ℕ} {priced : List ℕ} {there : PageAt list index page own priced} {marks : ℕ}
    {shown : List ℕ} {after : ℕ} {prices : List ℕ} {at : ℕ} (applied : RunsApplied there marks shown after prices at) where
  pub run_there : at < length list
  run_there = words_inside list at (runs_from page own priced applied.word) there.behind there.rest applied.words

  abbrev left : ℕ
  left = own / 2 ^ applied.word

  abbrev w : ℕ
  w = get_or list at 0

  left_small : left < 2 ^ 32
  left_small = omega (arith, there.small, shr_le own applied.word)

  -- the first run of those that are left
  module _ (o n : ℕ) (is : FirstRun left (record { offset = o; count = n })) where
    abbrev start : ℕ
    start = applied.word + o

    behind_run : List ℕ
    behind_run = runs_from page own priced (start + n) ++ there.behind ∷ there.rest

    run_first : drop at list ≡ run_word start n ∷ take n (drop start priced) ++ behind_run
    unfolding behind_run
    run_first =
        applied.words
        ∙ rw (runs_first page own priced applied.word _ is there.small there.size)
        (ap (λ ws. run_word start n ∷ ws) (append_assoc (take n (drop start priced)) _ _))

    run_here : w ≡ run_word start n
    run_here = word_at list at run_first

    run_on_page : start + n ≤ 32
    run_on_page = run_within page own priced applied.word _ is there.small there.size

    run_kind : kind w ≡ 2
    run_kind = rw run_here (omega (arith, run_on_page))

    run_offset : offset w ≡ start
    run_offset =
        let high : run_word start n / 0x10000 ≡ 0x2000 + start = omega (arith, run_on_page) in
        rw (run_here, high) (omega (arith, run_on_page))

    run_count : count w ≡ n
    run_count = rw run_here (omega (arith, run_on_page))

    long : length (take n (drop start priced)) ≡ n
    long = simp (length-take, length-drop) (omega (arith, run_on_page, there.size))

    run_prices_lem : take n (drop (at + 1) list) ≡ take n (drop start priced)
    run_prices_lem = rw (words_behind list at run_first) (take_at (take n (drop start priced)) behind_run n long)

    past_run_lem : drop (at + 1 + n) list ≡ behind_run
    past_run_lem =
        sym (drop-drop n (at + 1) list)
        ∙ rw (words_behind list at run_first) (drop_at (take n (drop start priced)) behind_run n long)

    -- applied to the page, it leaves the runs behind it
    module _ (ones after' : ℕ) (prices' : List ℕ) (set-ones : (v : ℕ) → is_set ones v ≡ in_range start n v)
        (together : after' ≡ bit_or after ones) (stored : prices' ≡ sets prices start (take n (drop start priced))) where
      run_marked : (v : ℕ) → is_set after' v ≡ (is_set marks v || up_to own (start + n) v)
      run_marked v =
          rw (together, set_in_either after ones v, set-ones v, applied.marked v, up_to_run own applied.word o n is v)
          (or_assoc (is_set marks v) (up_to own applied.word v) (in_range start n v))

      -- words outside it show what they did, and those in it its prices
      outside_run : (v : ℕ) → v < 32 → in_range start n v ≡ false
          → get_or prices' v 0 ≡ cond (up_to own (start + n) v) (get_or priced v 0) (get_or shown v 0)
      outside_run v small outside =
          let same : up_to own (start + n) v ≡ up_to own applied.word v =
          up_to_run own applied.word o n is v ∙ ap (λ (b : Bool). up_to own applied.word v || b) outside
          ∙ or-false (up_to own applied.word v) in
          rw (same, stored)
          (get_or-sets_outside (take n (drop start priced)) prices start v
          (λ j inside same. true≢false (sym (in_range_lem start n v (omega arith) (omega (arith, long))) ∙ outside))
          ∙ applied.showing v small)

      inside_run : (v : ℕ) → start ≤ v → v < start + n
          → get_or prices' v 0 ≡ cond (up_to own (start + n) v) (get_or priced v 0) (get_or shown v 0)
      inside_run v low high =
          let j : ℕ = v - start in
          let at : start + j ≡ v = omega arith in
          let marked : up_to own (start + n) v ≡ true =
          up_to_run own applied.word o n is v
          ∙ ap (λ (b : Bool). up_to own applied.word v || b) (in_range_lem start n v low high)
          ∙ or-true (up_to own applied.word v) in
          rw (marked, stored, ← at)
          (get_or-sets_inside (take n (drop start priced)) prices start j (omega (arith, run_on_page, applied.size))
          (omega (arith, long))
          ∙ get_or-take n (drop start priced) j 0 (omega arith) ∙ get_or-drop start priced j 0)

      run_showing : (v : ℕ) → v < 32
          → get_or prices' v 0 ≡ cond (up_to own (start + n) v) (get_or priced v 0) (get_or shown v 0)
      run_showing v small = elim (dec_lt v start) [
        | yes low ↦ outside_run v small (below start n v low)
        | no high ↦ elim (dec_lt v (start + n)) [
          | yes inside ↦ inside_run v (omega arith) inside
          | no behind ↦ outside_run v small (past start n v (omega arith) (omega arith))
        ]
      ]

      next_applied : RunsApplied there marks shown after' prices' (at + 1 + n)
      unfolding behind_run
      next_applied =
          record {
            word = start + n;
            within = run_on_page;
            counted =
                omega (
                  arith,
                  ap length (runs_first page own priced applied.word _ is there.small there.size),
                  length-append (take n (drop start priced)) (runs_from page own priced (start + n)),
                  long,
                  applied.counted,
                );
            words = past_run_lem;
            size = rw (stored, length-sets) applied.size;
            marked = run_marked;
            showing = run_showing;
          }

  -- a run word stands where a mark is left
  module _ (two : kind w ≡ 2) where
    some_left : left ≢ 0
    some_left none =
        there.no_run
        (sym
        (ap kind
        (word_at list at
        (applied.words
        ∙ ap (λ ws. ws ++ there.behind ∷ there.rest)
        (runs_none page own priced applied.word none applied.within))))
        ∙ two)

    pub run_fits : offset w + count w ≤ 32
    run_fits =
        let is = first_run left (omega (arith, some_left)) left_small in
        omega (arith, run_offset _ _ is, run_count _ _ is, run_on_page _ _ is)

    pub run_inside : at + 1 + count w < length list
    unfolding behind_run
    run_inside =
        let is = first_run left (omega (arith, some_left)) left_small in
        rw (run_count _ _ is)
        (words_inside list _ (runs_from page own priced _) there.behind there.rest (past_run_lem _ _ is))

    pub run_applied : (ones after' : ℕ) (prices' : List ℕ)
        → ((v : ℕ) → is_set ones v ≡ in_range (offset w) (count w) v) → after' ≡ bit_or after ones
        → prices' ≡ sets prices (offset w) (take (at + 1 + count w - (at + 1)) (drop (at + 1) list))
        → RunsApplied there marks shown after' prices' (at + 1 + count w)
    run_applied ones after' prices' set-ones together stored =
        let is = first_run left (omega (arith, some_left)) left_small in
        let many : at + 1 + count w - (at + 1) ≡ count w = omega arith in
        let same = rw (many, run_offset _ _ is, run_count _ _ is, run_prices_lem _ _ is) at stored in
        rw (run_count _ _ is)
        (next_applied _ _ is ones after' prices' (rw (run_offset _ _ is, run_count _ _ is) at set-ones) together same)

  -- and where no run word stands, none is
  module _ (other : kind w ≢ 2) where
    none_left : left ≡ 0
    none_left = elim (ℕ_discrete left 0) [
      | yes none ↦ none
      | no some ↦ absurd (other (run_kind _ _ (first_run left (omega arith) left_small)))
    ]

    pub all_past : at ≡ index + length (page_words page own priced)
    all_past =
        omega (arith, applied.counted, ap length (runs_none page own priced applied.word none_left applied.within))

    pub all_applied : PageApplied own priced marks shown after prices
    all_applied =
        record {
          marked = λ v. applied.marked v ∙ rw (up_to_all own applied.word v none_left);
          priced = λ v small. applied.showing v small ∙ rw (up_to_all own applied.word v none_left);
        }

-- what the code sees: the word at the index, and the run that it heads, if it is a run word
pub record RunAt (list : List ℕ) (at : ℕ) (prices : List ℕ) : Type 0 where
  pub inside : at < length list
  pub size : length prices ≡ 32
  pub fits : kind (get_or list at 0) ≡ 2 → offset (get_or list at 0) + count (get_or list at 0) ≤ 32
  pub behind : kind (get_or list at 0) ≡ 2 → at + 1 + count (get_or list at 0) < length list

pub run_at : {list : List ℕ} {index page own : ℕ} {priced : List ℕ} {there : PageAt list index page own priced} {marks : ℕ}
    {shown : List ℕ} {after : ℕ} {prices : List ℕ} {at : ℕ} → RunsApplied there marks shown after prices at
    → RunAt list at prices
run_at applied =
    record {
      inside = run_there applied;
      size = applied.size;
      fits = λ two. run_fits applied two;
      behind = λ two. run_inside applied two;
    }
