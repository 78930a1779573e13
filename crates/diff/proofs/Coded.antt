-- A diff that reads well is the encoding of its prices, which ascend.
use Rattle.std.specs.Prelude.{ℕ, suc, ◌+◌, ◌*◌, ◌≤◌, ◌<◌, ◌≡◌, List, [], ◌∷◌, ◌++◌, length}
use Rattle.laws.proofs.Prelude.{refl, sym, ap, ◌∙◌, arith, ℕ_discrete}
use Rattle.diff.specs.Format.{page_word, run_word, end_word}
use Rattle.diff.specs.Reading.{Cursor, past_price, past_page, past_run}
use Rattle.diff.specs.Prices.{Price, label_of, priced_word}
use Rattle.diff.specs.Encoding.{run_length, encode_from}
use Rattle.diff.proofs.Derivation.{Reads, reads_end, reads_page, reads_run, reads_price}
use Rattle.diff.proofs.Encoding.{Ascending, none, more, follows_yes, follows_no_page, follows_no_word}
use Rattle.diff.proofs.Encoding.{run_goes_on, run_stops, run_last, run_header_page, run_header_run}
use Rattle.diff.proofs.Encoding.{run_header_none, encode_none, encode_price}

-- the words of prices after the label `next`, and the end word that names the index `last`
abbrev pub coded : ℕ → ℕ → List Price → List ℕ
coded next last ps = encode_from next ps ++ end_word last ∷ []

module _ (pages last : ℕ) where
  -- between runs, `next` being one more than the label named last: the words are the prices' code, and no price goes
  -- on with the run before
  pub record BetweenRuns (next : ℕ) (s : Cursor) (ws : List ℕ) (ps : List Price) : Type 0 where
    pub code : ws ≡ coded next last ps
    pub up : Ascending pages next ps
    pub apart : (p : Price) → label_of p + 1 ≡ next → p.page + 1 ≡ s.next → run_length p ps ≡ 1

  -- right after the page word of a page of which nothing is named yet
  pub record AfterPage (next p : ℕ) (ws : List ℕ) (ps : List Price) : Type 0 where
    pub code : page_word p ∷ ws ≡ coded next last ps
    pub up : Ascending pages next ps
    pub apart : (q : Price) → q.page < p → run_length q ps ≡ 1

  -- in a run: the first price is due, and the run goes on for all that are
  pub record InRun (s : Cursor) (ws : List ℕ) (ps : List Price) : Type 0 where
    pub first : Price
    pub rest : List Price
    pub is : ps ≡ first ∷ rest
    pub page : first.page + 1 ≡ s.next
    pub word : first.word ≡ s.word
    pub long : run_length first rest ≡ s.due
    pub code : ws ≡ first.price ∷ coded (label_of first + 1) last rest
    pub up : Ascending pages (label_of first + 1) rest

  -- what a derivation gives, by the state that it starts in
  pub record Coded (s : Cursor) (ws : List ℕ) (ps : List Price) : Type 0 where
    pub between : s.due ≡ 0 → 0 < s.gap → s.next ≤ pages → (next : ℕ) → next ≤ 32 * s.next
        → (0 < s.next → (next + 32 ≡ 32 * s.next + s.word) × (0 < s.word)) → BetweenRuns next s ws ps
    pub opened : s.due ≡ 0 → s.gap ≡ 0 → s.word ≡ 0 → (p : ℕ) → s.next ≡ p + 1 → p < pages
        → (next : ℕ) → next ≤ 32 * p → AfterPage next p ws ps
    pub in_run : 0 < s.due → 0 < s.next → s.next ≤ pages → s.word + s.due ≤ 32 → InRun s ws ps

  module _ (s : Cursor) (index : ℕ) where
    end_coded : s.due ≡ 0 → 0 < s.gap → last ≡ index → Coded s (end_word index ∷ []) []
    end_coded idle gap own =
        record {
          between = λ _ _ _ next _ _. record
              { code = rw (encode_none next, own); up = none; apart = λ p _ _. run_last p };
          opened = λ _ closed _ p _ _ next _. absurd (omega arith);
          in_run = λ due _ _ _. absurd (omega arith);
        }

    page_coded : (p : ℕ) (ws : List ℕ) (ps : List Price) → s.due ≡ 0 → 0 < s.gap → s.next ≤ p → p < pages
        → Coded (past_page s p) ws ps → Coded s (page_word p ∷ ws) ps
    page_coded p ws ps idle gap up fits later =
        record {
          between = λ _ _ _ next low _.
              let a = later.opened refl refl refl p refl fits next (omega arith) in
              record { code = a.code; up = a.up; apart = λ q _ own. a.apart q (omega arith) };
          opened = λ _ closed _ q _ _ next _. absurd (omega arith);
          in_run = λ due _ _ _. absurd (omega arith);
        }

    -- a run word, between runs and after a page word
    run_between : (o n : ℕ) (ws : List ℕ) (ps : List Price) → s.next ≤ pages → 0 < n → o + n ≤ 32
        → s.word + s.gap ≤ o → 0 < s.gap → InRun (past_run s o n) ws ps → (next : ℕ)
        → next + 32 ≡ 32 * s.next + s.word → 0 < s.word → BetweenRuns next s (run_word o n ∷ ws) ps
    run_between o n ws ps fits some short past gap r next at far =
        let head = run_header_run next r.first (run_length r.first r.rest) (omega arith) (omega arith) in
        record {
          code = rw (r.is, encode_price next r.first r.rest _ head, r.code, r.long, r.word);
          up = rw r.is (more {next = next} {p = r.first} (omega arith) (omega arith) (omega arith) r.up);
          apart = λ p own same. rw r.is
              (run_stops p r.first r.rest (follows_no_word p r.first (omega arith)));
        }

    run_opened : (o n : ℕ) (ws : List ℕ) (ps : List Price) → 0 < n → o + n ≤ 32 → InRun (past_run s o n) ws ps
        → (p : ℕ) → s.next ≡ p + 1 → p < pages → (next : ℕ) → next ≤ 32 * p → AfterPage next p (run_word o n ∷ ws) ps
    run_opened o n ws ps some short r p named fits next low =
        let own : r.first.page ≡ p = omega arith in
        let head = run_header_page next r.first (run_length r.first r.rest) (omega arith) in
        record {
          code = rw (r.is, encode_price next r.first r.rest _ head, r.code, r.long, r.word, own);
          up = rw r.is (more {next = next} {p = r.first} (omega arith) (omega arith) (omega arith) r.up);
          apart = λ q below. rw r.is
              (run_stops q r.first r.rest (follows_no_page q r.first (omega arith)));
        }

    run_coded : (o n : ℕ) (ws : List ℕ) (ps : List Price) → s.due ≡ 0 → 0 < s.next → 0 < n → o + n ≤ 32
        → s.word + s.gap ≤ o → Coded (past_run s o n) ws ps → Coded s (run_word o n ∷ ws) ps
    run_coded o n ws ps idle named some short past later =
        record {
          between = λ _ gap fits next _ at.
              run_between o n ws ps fits some short past gap (later.in_run some named fits short) next
              (at named).0 (at named).1;
          opened = λ _ _ _ p own fits next low.
              run_opened o n ws ps some short (later.in_run some named (omega arith) short) p own fits next low;
          in_run = λ due _ _ _. absurd (omega arith);
        }

    -- a price: the last of its run, or one that the next price follows
    price_last : (w : ℕ) (ws : List ℕ) (ps : List Price) → s.due ≡ 1 → 0 < s.next → s.next ≤ pages
        → s.word + s.due ≤ 32
        → Coded (past_price s) ws ps → InRun s (w ∷ ws) (priced_word s w ∷ ps)
    price_last w ws ps one named fits short later =
        let b = later.between (omega arith) (omega arith) fits (label_of (priced_word s w) + 1) (omega arith)
        (λ _. (omega arith, omega arith)) in
        record {
          first = priced_word s w;
          rest = ps;
          is = refl;
          page = omega arith;
          word = refl;
          long = b.apart (priced_word s w) refl (omega arith) ∙ sym one;
          code = ap (λ (l : List ℕ). w ∷ l) b.code;
          up = b.up;
        }

    price_more : (w : ℕ) (ws : List ℕ) (ps : List Price) → 1 < s.due → 0 < s.next → s.next ≤ pages
        → s.word + s.due ≤ 32
        → Coded (past_price s) ws ps → InRun s (w ∷ ws) (priced_word s w ∷ ps)
    price_more w ws ps many named fits short later =
        let r = later.in_run (omega arith) named fits (omega arith) in
        let p : Price = priced_word s w in
        let head = run_header_none (label_of p + 1) r.first (run_length r.first r.rest) (omega arith)
        (omega arith)
        in
        record {
          first = p;
          rest = ps;
          is = refl;
          page = omega arith;
          word = refl;
          long = rw r.is (run_goes_on p r.first r.rest (follows_yes p r.first (omega arith) (omega arith))
              ∙ rw r.long (omega arith));
          code = rw (r.is, encode_price (label_of p + 1) r.first r.rest _ head, r.code);
          up = rw r.is (more {next = label_of p + 1} {p = r.first} (omega arith) (omega arith) (omega arith)
              r.up);
        }

    price_coded : (w : ℕ) (ws : List ℕ) (ps : List Price) → 0 < s.due → Coded (past_price s) ws ps
        → Coded s (w ∷ ws) (priced_word s w ∷ ps)
    price_coded w ws ps due later =
        record {
          between = λ idle _ _ next _ _. absurd (omega arith);
          opened = λ idle _ _ p _ _ next _. absurd (omega arith);
          in_run = λ _ named fits short. go (ℕ_discrete s.due 1) named fits short;
        }
      where
        go : Dec (s.due ≡ 1) → 0 < s.next → s.next ≤ pages → s.word + s.due ≤ 32
            → InRun s (w ∷ ws) (priced_word s w ∷ ps)
        go (yes one) named fits short = price_last w ws ps one named fits short later
        go (no many) named fits short = price_more w ws ps (omega arith) named fits short later

  pub reads_coded : {s : Cursor} {index : ℕ} {ws : List ℕ} {ps : List Price} → Reads pages s index ws ps
      → index + length ws ≡ suc last → Coded s ws ps
  reads_coded {s} {index} (reads_end idle gap) at = end_coded s index idle gap (omega arith)
  reads_coded {s} {index} (reads_page {p = p} {ws = ws} {ps = ps} idle gap up fits _ later) at =
      page_coded s index p ws ps idle gap up fits (reads_coded later (omega arith))
  reads_coded {s} {index} (reads_run {o = o} {n = n} {ws = ws} {ps = ps} idle named some short past later) at =
      run_coded s index o n ws ps idle named some short past (reads_coded later (omega arith))
  reads_coded {s} {index} (reads_price {w = w} {ws = ws} {ps = ps} due later) at =
      price_coded s index w ws ps due (reads_coded later (omega arith))
