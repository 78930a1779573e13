-- The encoding of ascending prices reads well, and reading gives the prices back.
use Rattle.std.specs.Prelude.{ℕ, ◌+◌, ◌-◌, ◌*◌, ◌≤◌, ◌<◌, ◌≡◌, List, [], ◌∷◌, Bool, true, false, length}
use Rattle.laws.proofs.Prelude.{refl, sym, ap, ◌∙◌, subst, true≢false, arith, dec_lt}
use Rattle.diff.specs.Format.{end_word}
use Rattle.diff.specs.Reading.{Cursor, start, past_price, past_page}
use Rattle.diff.specs.Prices.{Price, label_of, priced_word}
use Rattle.diff.specs.Encoding.{follows, run_length, encode_from}
use Rattle.diff.proofs.Derivation.{Reads, reads_end, reads_page, reads_run, reads_price}
use Rattle.diff.proofs.Encoding.{Ascending, none, more, follows_yes, follows_page, follows_word, run_goes_on}
use Rattle.diff.proofs.Encoding.{run_stops, run_last, run_header_page, run_header_run, run_header_none}
use Rattle.diff.proofs.Encoding.{encode_none, encode_price}
use Rattle.diff.proofs.Coded.{coded}

-- a run is of one price or more, and ends within its page
pub run_within : {pages next : ℕ} (p : Price) {ps : List Price} → p.word < 32 → Ascending pages next ps
    → (0 < run_length p ps) × (p.word + run_length p ps ≤ 32)
run_within p word none = rw (run_last p) (omega arith, omega arith)
run_within p word (more {p = q} {ps = qs} up below _ rest) = go (follows p q) refl (run_within q below rest)
  where
    go : (on : Bool) → follows p q ≡ on → (0 < run_length q qs) × (q.word + run_length q qs ≤ 32)
        → (0 < run_length p (q ∷ qs)) × (p.word + run_length p (q ∷ qs) ≤ 32)
    go true on later = rw (run_goes_on p q qs on) (omega arith, omega (arith, follows_word p q on))
    go false off later = rw (run_stops p q qs off) (omega arith, omega arith)

-- a state between two runs, `next` being one more than the label named last
pub record Between (next : ℕ) (s : Cursor) : Type 0 where
  pub idle : s.due ≡ 0
  pub gap : s.gap ≡ 1
  pub low : next ≤ 32 * s.next
  pub at : 0 < s.next → next + 32 ≡ 32 * s.next + s.word
  pub past : 0 < s.next → 0 < s.word

module _ (pages last : ℕ) (few : pages ≤ 0x10000000) where
  -- in a run, at a price: it and the code of the prices after it read well
  abbrev pub RunReads : Price → List Price → Type 0
  RunReads p ps = (s : Cursor) (index : ℕ) → s.next ≡ p.page + 1 → s.word ≡ p.word → s.due ≡ run_length p ps
      → index + 1 + length (encode_from (label_of p + 1) ps) ≡ last
      → Reads pages s index (p.price ∷ coded (label_of p + 1) last ps) (p ∷ ps)

  module _ (p : Price) (ps : List Price) (word : p.word < 32) (fits : p.page < pages)
      (up : Ascending pages (label_of p + 1) ps) (later : RunReads p ps) (s : Cursor) (index next : ℕ)
      (b : Between next s)
      (above : next ≤ label_of p) (whole : index + length (encode_from next (p ∷ ps)) ≡ last) where
    -- the first price of a page
    page_reads : next ≤ 32 * p.page → Reads pages s index (coded next last (p ∷ ps)) (p ∷ ps)
    page_reads fresh =
        let code = encode_price next p ps _ (run_header_page next p (run_length p ps) fresh) in
        let within = run_within p word up in
        rw code
        (reads_page {s = s} b.idle (omega arith) higher fits (omega arith)
        (reads_run {s = past_page s p.page} refl (omega arith) within.0 within.1 (omega arith)
        (later _ (index + 1 + 1) refl refl refl (omega (arith, ap length code)))))
      where
        higher : s.next ≤ p.page
        higher = go (dec_lt 0 s.next)
          where
            go : Dec (0 < s.next) → s.next ≤ p.page
            go (yes named) = omega (arith, b.at named, b.past named)
            go (no fresh) = omega arith

    -- the first price of a run on a page that is named already
    run_reads : 32 * p.page < next → (next ≡ label_of p → ⊥) → Reads pages s index (coded next last (p ∷ ps)) (p ∷ ps)
    run_reads old apart =
        let code = encode_price next p ps _ (run_header_run next p (run_length p ps) old apart) in
        let within = run_within p word up in
        let named : 0 < s.next = omega (arith, b.low) in
        rw code
        (reads_run {s = s} b.idle named within.0 within.1 (omega (arith, b.at named, b.past named))
        (later _ (index + 1) (omega (arith, b.at named, b.past named)) refl refl (omega (arith, ap length code))))

    price_reads : (32 * p.page < next → next ≡ label_of p → ⊥)
        → Reads pages s index (coded next last (p ∷ ps)) (p ∷ ps)
    price_reads apart = go (dec_lt (32 * p.page) next)
      where
        go : Dec (32 * p.page < next) → Reads pages s index (coded next last (p ∷ ps)) (p ∷ ps)
        go (yes old) = run_reads old (apart old)
        go (no fresh) = page_reads (omega arith)

  -- a price of a run is the one that its word is read as
  same_price : (p : Price) (s : Cursor) → s.next ≡ p.page + 1 → s.word ≡ p.word → priced_word s p.price ≡ p
  same_price p s page word =
      let own : s.next - 1 ≡ p.page = omega arith in
      rw (own, word)

  between_prices : (p : Price) (s : Cursor) → p.word < 32 → s.next ≡ p.page + 1 → s.word ≡ p.word → s.due ≡ 1
      → Between (label_of p + 1) (past_price s)
  between_prices p s word page at one =
      record { idle = omega arith; gap = refl; low = omega arith; at = λ _. omega arith; past = λ _. omega arith }

  -- the run is followed by the prices from a label on that is the one behind p
  run-decoded-from : (p : Price) {ps : List Price} (next : ℕ) → p.word < 32 → next ≡ label_of p + 1
      → Ascending pages next ps → RunReads p ps
  run-decoded-from p next word behind none s index page at due whole =
      let one : s.due ≡ 1 = due ∙ run_last p in
      let own : last ≡ index + 1 = sym (omega (arith, ap length (encode_none (label_of p + 1)))) in
      rw (encode_none (label_of p + 1), own)
      (subst (λ (q : Price). Reads pages s index (p.price ∷ end_word (index + 1) ∷ []) (q ∷ []))
      (same_price p s page at)
      (reads_price {s = s} (omega arith) (reads_end {s = past_price s} (omega arith) (omega arith))))
  run-decoded-from p next word behind (more {p = q} {ps = qs} up below fits rest) s index page at due whole =
      subst (λ (x : Price). Reads pages s index (p.price ∷ coded (label_of p + 1) last (q ∷ qs)) (x ∷ q ∷ qs))
      (same_price p s page at) (go (follows p q) refl (λ t i a b c d. run-decoded-from q (label_of q + 1) below refl rest t i a b c d))
    where
      go : (on : Bool) → follows p q ≡ on → RunReads q qs
          → Reads pages s index (p.price ∷ coded (label_of p + 1) last (q ∷ qs)) (priced_word s p.price ∷ q ∷ qs)
      go true on later =
          let same = follows_page p q on in
          let beside = follows_word p q on in
          let long = run_goes_on p q qs on in
          let code = encode_price (label_of p + 1) q qs _
          (run_header_none (label_of p + 1) q (run_length q qs) (omega arith) (omega arith)) in
          rw code
          (reads_price {s = s} (omega arith)
          (later (past_price s) (index + 1) (omega arith) (omega arith) (omega arith) (omega (arith, ap length code))))
      go false off later =
          let long = run_stops p q qs off in
          reads_price {s = s} (omega arith)
          (price_reads q qs below fits rest later (past_price s) (index + 1) (label_of p + 1)
          (between_prices p s word page at (omega arith)) (rw behind at up) whole
          (λ old again. true≢false (sym (follows_yes p q (omega arith) (omega arith)) ∙ off)))

  pub run_decoded : (p : Price) {ps : List Price} → p.word < 32 → Ascending pages (label_of p + 1) ps → RunReads p ps
  run_decoded p word up s index page at due whole = run-decoded-from p (label_of p + 1) word refl up s index page at due whole

  -- ascending prices from the start on
  pub decoded : {ps : List Price} → Ascending pages 0 ps → length (encode_from 0 ps) ≡ last
      → Reads pages start 0 (coded 0 last ps) ps
  decoded none whole = rw (encode_none 0) (rw (← whole, encode_none 0) (reads_end {s = start} refl (omega arith)))
  decoded (more {p = p} {ps = ps} up word fits rest) whole =
      price_reads p ps word fits rest (λ t i a b c d. run_decoded p word rest t i a b c d) start 0 0 first up
      (omega arith) (λ old same. absurd (omega arith))
    where
      first : Between 0 start
      first = record {
        idle = refl;
        gap = refl;
        low = omega arith;
        at = λ named. absurd (omega arith);
        past = λ named.
            absurd (omega arith);
      }
