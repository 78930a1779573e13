-- What is left of an allowed diff from a page on: the first page of it that has words, and what stands behind these.
use Rattle.std.specs.Prelude.{ℕ, zero, suc, ◌+◌, ◌-◌, ◌*◌, ◌%◌, ◌^◌, ◌≤◌, ◌<◌, ◌≡◌, List, [], ◌∷◌, ◌++◌, false, length}
use Rattle.std.specs.Prelude.{get_or, drop}
use Rattle.laws.proofs.Prelude.{refl, sym, ap, ◌∙◌, arith, dec_lt, ℕ_discrete}
use mathlib.Core.List.{append_assoc}
use lib.ListN.{length-append}
use lib.Seq.{drop-drop, drop_at}
use Rattle.diff.specs.Format.{page_word, end_word}
use Rattle.diff.specs.declared.Price.{Price}
use Rattle.diff.specs.Prices.{prices_of, names, applied_at}
use Rattle.diff.specs.OnlyDiff.{Allowed}
use Rattle.diff.specs.Merging.{merge_pages}
use Rattle.diff.specs.Marks.{is_set}
use Rattle.diff.proofs.Bits.{none_set}
use Rattle.diff.proofs.OnlyDiff.{allowed_few, one_diff_for_prices}
use Rattle.encoder.specs.Page.{page_words}
use Rattle.encoder.proofs.Bits.{first_run}
use Rattle.encoder.proofs.Runs.{page_words_none, page_words_some}
use Rattle.encoder.proofs.Pages.{body_from, body_none, body_skip, body_next}
use Rattle.merger.specs.Page.{PageAt}
use Rattle.merger.proofs.Words.{words_inside, word_at}
use Rattle.merger.proofs.Packed.{packed, packed_set, packed_small, tabulated, length_tabulated, tabulated_at}

-- ---- the pages of a diff with these prices

module _ (ps : List Price) where
  abbrev body : ℕ → List ℕ
  body page = body_from (names ps) (λ (label : ℕ). applied_at ps label 0) merge_pages page

  abbrev pub marks_on : ℕ → ℕ
  marks_on page = packed (λ (w : ℕ). names ps (32 * page + w)) 32

  abbrev pub prices_on : ℕ → List ℕ
  prices_on page = tabulated (λ (w : ℕ). applied_at ps (32 * page + w) 0) 32

  pub marks_on_lem : (page w : ℕ) → w < 32 → is_set (marks_on page) w ≡ names ps (32 * page + w)
  marks_on_lem page = packed_set (λ (w : ℕ). names ps (32 * page + w)) 32

  pub prices_on_lem : (page w : ℕ) → w < 32 → get_or (prices_on page) w 0 ≡ applied_at ps (32 * page + w) 0
  prices_on_lem page = tabulated_at (λ (w : ℕ). applied_at ps (32 * page + w) 0) 32

  marks_small : (page : ℕ) → marks_on page < 2 ^ 32
  marks_small page = packed_small (λ (w : ℕ). names ps (32 * page + w)) 32

  prices_size : (page : ℕ) → length (prices_on page) ≡ 32
  prices_size page = length_tabulated (λ (w : ℕ). applied_at ps (32 * page + w) 0) 32

  body_page : (page : ℕ) → page < 64 → body page ≡ page_words page (marks_on page) (prices_on page) ++ body (page + 1)
  body_page page within =
      body_next (names ps) (λ (label : ℕ). applied_at ps label 0) merge_pages page within (marks_on page) (prices_on page)
      (marks_on_lem page) (λ w small is. prices_on_lem page w small)

  unnamed_page : (page label : ℕ) → marks_on page ≡ 0 → 32 * page ≤ label → label < 32 * (page + 1)
      → names ps label ≡ false
  unnamed_page page label none low high =
      let at : 32 * page + label % 32 ≡ label = omega arith in
      ap (names ps) (sym at) ∙ sym (marks_on_lem page (label % 32) (omega arith)) ∙ rw none (none_set (label % 32))

-- ---- the first page that has words

-- the word that stands first of those from a page on, the end word behind them: it names a page, 64 being the end
pub record NextPage (ps : List Price) (end page : ℕ) : Type 0 where
  pub next : ℕ
  pub from : page ≤ next
  pub to : next ≤ 64
  pub unnamed : (label : ℕ) → 32 * page ≤ label → label < 32 * next → names ps label ≡ false
  pub word : ℕ
  pub rest : List ℕ
  pub words : body ps page ++ end_word end ∷ [] ≡ word ∷ rest
  pub of_page : next < 64 → word ≡ page_word next
  pub of_end : next ≡ 64 → word ≡ end_word end

next_page : (ps : List Price) (end n page : ℕ) → page + n ≡ 64 → NextPage ps end page
next_page ps end zero page all =
    record {
      next = 64;
      from = omega arith;
      to = omega arith;
      unnamed = λ label low high. absurd (omega arith);
      word = end_word end;
      rest = [];
      words =
          ap (λ ws. ws ++ end_word end ∷ [])
          (body_none (names ps) (λ (label : ℕ). applied_at ps label 0) merge_pages page (omega arith));
      of_page = λ less. absurd (omega arith);
      of_end = λ is. refl;
    }
next_page ps end (suc n) page all =
    go (ℕ_discrete (marks_on ps page) 0) (next_page ps end n (page + 1) (omega arith))
  where
    within : page < 64
    within = omega arith

    go : Dec (marks_on ps page ≡ 0) → NextPage ps end (page + 1) → NextPage ps end page
    go (yes none) later =
        record {
          next = later.next;
          from = omega (arith, later.from);
          to = later.to;
          unnamed = λ label low high. elim (dec_lt label (32 * (page + 1))) [
            | yes here ↦ unnamed_page ps page label none low here
            | no there ↦ later.unnamed label (omega arith) high
          ];
          word = later.word;
          rest = later.rest;
          words =
              ap (λ ws. ws ++ end_word end ∷ [])
              (body_page ps page within
              ∙ ap (λ ws. ws ++ body ps (page + 1))
              (page_words_none page (marks_on ps page) (prices_on ps page) none))
              ∙ later.words;
          of_page = later.of_page;
          of_end = later.of_end;
        }
    go (no some) later =
        record {
          next = page;
          from = omega arith;
          to = omega arith;
          unnamed = λ label low high. absurd (omega arith);
          word = page_word page;
          rest = _;
          words =
              ap (λ ws. ws ++ end_word end ∷ [])
              (body_page ps page within
              ∙ ap (λ ws. ws ++ body ps (page + 1))
              (page_words_some page (marks_on ps page) (prices_on ps page)
              (first_run (marks_on ps page) (omega arith) (marks_small ps page)) (marks_small ps page)
              (prices_size ps page)));
          of_page = λ less. refl;
          of_end = λ is. absurd (omega arith);
        }

pub word_above : {ps : List Price} {end page : ℕ} (np : NextPage ps end page) → page_word page ≤ np.word
word_above np = elim (dec_lt np.next 64) [
  | yes less ↦ omega (arith, np.of_page less, np.from)
  | no last ↦ omega (arith, np.of_end (omega (arith, np.to)), np.from, np.to)
]

-- ---- what is left of a diff at an index

pub record Ahead (list : List ℕ) (ps : List Price) (index page : ℕ) : Type 0 where
  pub end : ℕ
  pub small : end < 0x10000000
  pub within : page ≤ 64
  pub words : drop index list ≡ body ps page ++ end_word end ∷ []

pub ahead_first : (list : List ℕ) → Allowed merge_pages list → Ahead list (prices_of merge_pages list) 0 0
ahead_first list allowed =
    record {
      end = length (body ps 0);
      small =
          omega (
            arith,
            allowed_few merge_pages list allowed,
            ap length is,
            length-append (body ps 0) (end_word (length (body ps 0)) ∷ []),
          );
      within = omega arith;
      words = is;
    }
  where
    ps : List Price
    ps = prices_of merge_pages list

    is : list ≡ body ps 0 ++ end_word (length (body ps 0)) ∷ []
    is =
        (one_diff_for_prices merge_pages (names ps) (λ (label : ℕ). applied_at ps label 0) (omega arith)).only list allowed
        (record { names_these = λ label below. refl; at_price = λ label named. refl })

module _ {list : List ℕ} {ps : List Price} {index page : ℕ} (ahead : Ahead list ps index page) where
  pub first_page : NextPage ps ahead.end page
  first_page = next_page ps ahead.end (64 - page) page (omega (arith, ahead.within))

  pub ahead_inside : index < length list
  ahead_inside = words_inside list index (body ps page) (end_word ahead.end) [] ahead.words

  pub ahead_word : get_or list index 0 ≡ first_page.word
  ahead_word = word_at list index (ahead.words ∙ first_page.words)

  -- at a page before which nothing is named
  module _ (k : ℕ) (on : k < 64) (from : page ≤ k) (to : k ≤ first_page.next) where
    behind : NextPage ps ahead.end (k + 1)
    behind = next_page ps ahead.end (64 - (k + 1)) (k + 1) (omega arith)

    from_page : drop index list
        ≡ page_words k (marks_on ps k) (prices_on ps k) ++ (body ps (k + 1) ++ end_word ahead.end ∷ [])
    from_page =
        ahead.words
        ∙ ap (λ ws. ws ++ end_word ahead.end ∷ [])
        (body_skip (names ps) (λ (label : ℕ). applied_at ps label 0) merge_pages page k from (omega arith)
        (λ label low high. first_page.unnamed label low (omega (arith, to)))
        ∙ body_page ps k on)
        ∙ append_assoc (page_words k (marks_on ps k) (prices_on ps k)) (body ps (k + 1)) (end_word ahead.end ∷ [])

    pub page_at_lem : PageAt list index k (marks_on ps k) (prices_on ps k)
    page_at_lem =
        record {
          small = marks_small ps k;
          size = prices_size ps k;
          behind = behind.word;
          rest = behind.rest;
          words = from_page ∙ ap (λ ws. page_words k (marks_on ps k) (prices_on ps k) ++ ws) behind.words;
          no_run = λ two. elim (dec_lt behind.next 64) [
            | yes less ↦ absurd (omega (arith, behind.of_page less))
            | no last ↦ absurd (omega (arith, behind.of_end (omega (arith, behind.to)), ahead.small))
          ];
          is_no_page = λ same. elim (dec_lt behind.next 64) [
            | yes less ↦ absurd (omega (arith, behind.of_page less, behind.from))
            | no last ↦ absurd (omega (arith, behind.of_end (omega (arith, behind.to))))
          ];
        }

    pub past_page_lem : Ahead list ps (index + length (page_words k (marks_on ps k) (prices_on ps k))) (k + 1)
    past_page_lem =
        record {
          end = ahead.end;
          small = ahead.small;
          within = omega arith;
          words =
              sym (drop-drop (length (page_words k (marks_on ps k) (prices_on ps k))) index list)
              ∙ ap (drop (length (page_words k (marks_on ps k) (prices_on ps k)))) from_page
              ∙ drop_at (page_words k (marks_on ps k) (prices_on ps k)) _ _ refl;
        }
