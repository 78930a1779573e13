-- Two allowed diffs made one, page by page: what the pages before one bring stands in a list, and the rest of both diffs
-- is ahead.
use Rattle.std.specs.Prelude.{ℕ, ◌+◌, ◌*◌, ◌%◌, ◌≤◌, ◌<◌, ◌≡◌, List, [], ◌∷◌, ◌++◌, Bool, true, false, cond, ◌||◌}
use Rattle.std.specs.Prelude.{length, get_or, set, min, None, Some}
use Rattle.laws.proofs.Prelude.{refl, sym, ap, ◌∙◌, arith, dec_lt, true≢false}
use Rattle.laws.proofs.Lists.{sets-append}
use native.Mathlib.Nat.{zero-add}
use lib.ListN.{length-append}
use lib.Seq.{sets, length-sets}
use Rattle.diff.specs.Format.{page_word, end_word}
use Rattle.diff.specs.declared.Price.{Price}
use Rattle.diff.specs.Prices.{prices_of, names}
use Rattle.diff.specs.Marks.{is_set}
use Rattle.diff.specs.OnlyDiff.{Allowed}
use Rattle.diff.specs.Merging.{merge_pages, either_names, last_price, merged_diff}
use Rattle.diff.proofs.Bits.{none_set}
use Rattle.diff.proofs.MergedDiff.{merged_list}
use Rattle.encoder.specs.Page.{page_words}
use Rattle.encoder.proofs.Pages.{body_from, body_none, body_skip, body_next}
use Rattle.merger.specs.Page.{PageAt, PageApplied, next_page}
use Rattle.merger.specs.Made.{MadeIn}
use Rattle.merger.proofs.Ahead.{NextPage, marks_on, prices_on, marks_on_lem, prices_on_lem, Ahead, ahead_first, first_page}
use Rattle.merger.proofs.Ahead.{word_above, ahead_inside, ahead_word, page_at_lem, past_page_lem}

-- the words that the pages of the merged diff bring from one on
abbrev merged_body : List ℕ → List ℕ → ℕ → List ℕ
merged_body first second page =
    body_from (either_names (prices_of merge_pages first) (prices_of merge_pages second))
    (last_price (prices_of merge_pages first) (prices_of merge_pages second)) merge_pages page

merged_words : (first second : List ℕ)
    → merged_diff first second
    ≡ merged_body first second 0 ++ end_word (length (merged_body first second 0)) ∷ []
merged_words first second = merged_list first second

length_merged : (first second : List ℕ)
    → length (merged_diff first second) ≡ length (merged_body first second 0) + 1
length_merged first second =
    ap length (merged_words first second)
    ∙ length-append (merged_body first second 0) (end_word (length (merged_body first second 0)) ∷ [])

-- a list in which what the pages before one bring stands before an index
pub record Merging (first second before : List ℕ) (i j at : ℕ) (list : List ℕ) : Type 0 where
  page : ℕ
  ahead : Ahead first (prices_of merge_pages first) i page
  ahead' : Ahead second (prices_of merge_pages second) j page
  pub inside : i < length first
  pub inside' : j < length second
  pub long : length list ≡ length before
  pub room : at < length before
  counted : at + length (merged_body first second page) ≡ length (merged_body first second 0)
  stored : sets list at (merged_body first second page) ≡ sets before 0 (merged_body first second 0)

pub merging_first : (first second before : List ℕ) → Allowed merge_pages first → Allowed merge_pages second
    → 0 < length before → Merging first second before 0 0 0 before
merging_first first second before allowed allowed' room =
    record {
      page = 0;
      ahead = ahead_first first allowed;
      ahead' = ahead_first second allowed';
      inside = ahead_inside (ahead_first first allowed);
      inside' = ahead_inside (ahead_first second allowed');
      long = refl;
      room = room;
      counted = zero-add (length (merged_body first second 0));
      stored = refl;
    }

-- the page that the next words name
page_named : (a b k : ℕ) → next_page a b ≡ Some k → (min a b < 0xF0000000) × (k ≡ min a b % 0x10000000)
page_named a b k is = grind arith

none_named : (a b : ℕ) → next_page a b ≡ None → 0xF0000000 ≤ min a b
none_named a b is = grind arith

module _ {first second before : List ℕ} {i j at : ℕ} {list : List ℕ}
    (merging : Merging first second before i j at list) where
  abbrev p : List Price
  p = prices_of merge_pages first

  abbrev p' : List Price
  p' = prices_of merge_pages second

  -- the next page of each
  abbrev np : NextPage p merging.ahead.end merging.page
  np = first_page merging.ahead

  abbrev np' : NextPage p' merging.ahead'.end merging.page
  np' = first_page merging.ahead'

  -- the lower of the next words
  abbrev next : ℕ
  next = min (get_or first i 0) (get_or second j 0)

  lower_word : next ≡ min np.word np'.word
  lower_word = rw (ahead_word merging.ahead, ahead_word merging.ahead')

  either_unnamed : (k : ℕ) → k ≤ np.next → k ≤ np'.next → (label : ℕ) → 32 * merging.page ≤ label → label < 32 * k
      → either_names p p' label ≡ false
  either_unnamed k to to' label low high =
      rw (np.unnamed label low (omega arith), np'.unnamed label low (omega arith))

  -- ---- at a page word

  -- the page that it names: of the next pages of both the lower one
  module _ (k : ℕ) (more : next_page (get_or first i 0) (get_or second j 0) ≡ Some k) where
    record Next : Type 0 where
      on : k < 64
      word : next ≡ page_word k
      from : merging.page ≤ k
      to : k ≤ np.next
      to' : k ≤ np'.next

    next_is : Next
    next_is =
        let low = lower_word in
        let named = page_named (get_or first i 0) (get_or second j 0) k more in
        let from = np.from in
        let from' = np'.from in
        elim (dec_lt np.next 64) [
          | yes less ↦
              let word = np.of_page less in
              elim (dec_lt np'.next 64) [
                | yes less' ↦
                    let word' = np'.of_page less' in
                    record { on = omega arith; word = omega arith; from = omega arith; to = omega arith; to' = omega arith }
                | no last' ↦
                    let word' = np'.of_end (omega (arith, np'.to)) in
                    record { on = omega arith; word = omega arith; from = omega arith; to = omega arith; to' = omega arith }
              ]
          | no last ↦
              let word = np.of_end (omega (arith, np.to)) in
              elim (dec_lt np'.next 64) [
                | yes less' ↦
                    let word' = np'.of_page less' in
                    record { on = omega arith; word = omega arith; from = omega arith; to = omega arith; to' = omega arith }
                | no last' ↦ absurd (omega (arith, np'.of_end (omega (arith, np'.to))))
              ]
        ]

    pub next_page_on : k < 64
    next_page_on = next_is.on

    pub page_of_first : PageAt first i k (marks_on p k) (prices_on p k)
    page_of_first = page_at_lem merging.ahead k next_is.on next_is.from next_is.to

    pub page_of_second : PageAt second j k (marks_on p' k) (prices_on p' k)
    page_of_second = page_at_lem merging.ahead' k next_is.on next_is.from next_is.to'

    -- behind the page
    module _ (index : ℕ) where
      past_first : index ≡ i + length (page_words k (marks_on p k) (prices_on p k)) → Ahead first p index (k + 1)
      past_first past = rw past (past_page_lem merging.ahead k next_is.on next_is.from next_is.to)

      past_second : index ≡ j + length (page_words k (marks_on p' k) (prices_on p' k)) → Ahead second p' index (k + 1)
      past_second past = rw past (past_page_lem merging.ahead' k next_is.on next_is.from next_is.to')

    module _ (i' j' : ℕ) (past : i' ≡ i + length (page_words k (marks_on p k) (prices_on p k)))
        (past' : j' ≡ j + length (page_words k (marks_on p' k) (prices_on p' k))) where
      pub next_rises : (next < min (get_or first i' 0) (get_or second j' 0)) × (next < 0xF0000000)
      next_rises =
          let ahead = past_first i' past in
          let ahead' = past_second j' past' in (
            omega (
              arith,
              ahead_word ahead,
              ahead_word ahead',
              word_above (first_page ahead),
              word_above (first_page ahead'),
              next_is.word,
            ),
            (page_named (get_or first i 0) (get_or second j 0) k more).0,
          )

    -- what both have on the page is applied to it
    module _ (shown : List ℕ) (marks : ℕ) (prices : List ℕ) (marks' : ℕ) (prices' : List ℕ)
        (applied : PageApplied (marks_on p k) (prices_on p k) 0 shown marks prices)
        (applied' : PageApplied (marks_on p' k) (prices_on p' k) marks prices marks' prices') (size : ℕ)
        (sized : (page : ℕ) (prices : List ℕ) → size ≡ length (page_words page marks' prices)) where
      marked : (w : ℕ) → w < 32 → is_set marks' w ≡ either_names p p' (32 * k + w)
      marked w small =
          applied'.marked w ∙ rw (applied.marked w, none_set w, marks_on_lem p k w small, marks_on_lem p' k w small)

      priced : (w : ℕ) → w < 32 → is_set marks' w ≡ true → get_or prices' w 0 ≡ last_price p p' (32 * k + w)
      priced w small is =
          applied'.priced w small
          ∙ rw (
            applied.priced w small,
            marks_on_lem p k w small,
            marks_on_lem p' k w small,
            prices_on_lem p k w small,
            prices_on_lem p' k w small,
          )
          (go (names p (32 * k + w)) (names p' (32 * k + w)) _ _ _ (sym (marked w small) ∙ is))
        where
          go : (named named' : Bool) (x y z : ℕ) → (named || named') ≡ true
              → cond named' x (cond named y z) ≡ cond named' x y
          go named true x y z either = refl
          go true false x y z either = refl
          go false false x y z either = absurd (true≢false (sym either))

      merged-next : merged_body first second merging.page
          ≡ page_words k marks' prices' ++ merged_body first second (k + 1)
      merged-next =
          body_skip (either_names p p') (last_price p p') merge_pages merging.page k next_is.from (omega (arith, next_is.on))
          (either_unnamed k next_is.to next_is.to')
          ∙ body_next (either_names p p') (last_price p p') merge_pages k next_is.on marks' prices' marked priced

      merged-length : at + size + length (merged_body first second (k + 1)) ≡ length (merged_body first second 0)
      merged-length =
          omega (
            arith,
            merging.counted,
            sized k prices',
            ap length merged-next,
            length-append (page_words k marks' prices') (merged_body first second (k + 1)),
          )

      -- where the page has no room before the end word, the merged diff has none in the list
      pub no_room : length before ≤ at + size → length before < length (merged_diff first second)
      no_room full = omega (arith, length_merged first second, merged-length)

      -- and where it has, it is written
      module _ (room : at + size < length before) (i' j' at' : ℕ) (list' : List ℕ)
          (past : i' ≡ i + length (page_words k (marks_on p k) (prices_on p k)))
          (past' : j' ≡ j + length (page_words k (marks_on p' k) (prices_on p' k)))
          (written : at' ≡ at + length (page_words k marks' prices'))
          (stores : list' ≡ sets list at (page_words k marks' prices')) where
        pub merging_next : Merging first second before i' j' at' list'
        merging_next =
            record {
              page = k + 1;
              ahead = past_first i' past;
              ahead' = past_second j' past';
              inside = ahead_inside (past_first i' past);
              inside' = ahead_inside (past_second j' past');
              long = rw stores (length-sets list at (page_words k marks' prices') ∙ merging.long);
              room = omega (arith, written, sized k prices');
              counted = omega (arith, written, sized k prices', merged-length);
              stored =
                  rw (stores, written)
                  (sym (sets-append (page_words k marks' prices') (merged_body first second (k + 1)) list at)
                  ∙ ap (sets list at) (sym merged-next) ∙ merging.stored);
            }

  -- ---- at the end of both

  module _ (last : next_page (get_or first i 0) (get_or second j 0) ≡ None) where
    low_word : 0xF0000000 ≤ next
    low_word = none_named (get_or first i 0) (get_or second j 0) last

    both_end : (np.next ≡ 64) × (np'.next ≡ 64)
    both_end = elim (dec_lt np.next 64) [
      | yes less ↦ absurd (omega (arith, low_word, lower_word, np.of_page less))
      | no end ↦ elim (dec_lt np'.next 64) [
        | yes less' ↦ absurd (omega (arith, low_word, lower_word, np'.of_page less'))
        | no end' ↦ (omega (arith, np.to), omega (arith, np'.to))
      ]
    ]

    nothing_left : merged_body first second merging.page ≡ []
    nothing_left =
        body_skip (either_names p p') (last_price p p') merge_pages merging.page 64 merging.ahead.within (omega arith)
        (either_unnamed 64 (omega (arith, both_end.0)) (omega (arith, both_end.1)))
        ∙ body_none (either_names p p') (last_price p p') merge_pages 64 (omega arith)

    whole : at ≡ length (merged_body first second 0)
    whole = omega (arith, merging.counted, ap length nothing_left)

    pub merged-made : (list' : List ℕ) → list' ≡ set list at (end_word at)
        → MadeIn (merged_diff first second) before (Some (at + 1)) list'
    merged-made list' ended = (
      omega (arith, length_merged first second, whole),
      (
        omega (arith, length_merged first second, whole, merging.room),
        rw (ended, merged_words first second, sets-append, zero-add, ← whole, ← merging.stored, nothing_left),
      ),
    )
