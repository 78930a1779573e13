-- The claims on both halves survive a step of a release.
use Rattle.std.specs.Prelude.{ℕ, suc, ◌+◌, ◌*◌, ◌/◌, ◌≤◌, ◌<◌, ◌≡◌, ◌≢◌, List, false, length}
use Rattle.laws.proofs.Prelude.{refl, sym, ap, ◌∙◌, arith, ℕ_discrete, dec_lt}
use Rattle.directory.specs.declared.Directory.{Directory}
use Rattle.area.specs.Prelude.{page_at, tentative_half, committed_half, desk_size, page_size, Release}
use Rattle.area.proofs.Prelude.{length_number, NotIn}
use Rattle.diff.specs.Prices.{names, applied_at}
use Rattle.diff.proofs.Prices.{applied_none, applied_unnamed}
use Rattle.diff.proofs.Stored.{price_on_page}
use Rattle.protocol.specs.Release.{release_writes, counts_at}
use Rattle.protocol.specs.Book.{Opened, none, opened, list_prices, update}
use Rattle.protocol.proofs.release.Writes.{no_price, length_writes, Phase, phase, to_tentative, to_desk, to_stamp}
use Rattle.protocol.proofs.release.Writes.{to_committed, to_done, to_close, write_tentative, write_desk}
use Rattle.protocol.proofs.release.Writes.{write_stamp}
use Rattle.protocol.proofs.release.WordAfter.{written_region, word_after_none, written, written_miss}
use Rattle.protocol.proofs.release.WordAfter.{written_other_offset, misses_at}
use Rattle.protocol.proofs.release.Step.{step_write}
use Rattle.protocol.proofs.book.Changes.{EightWords, uncounted, uncounted_early, uncounted_late}
use Rattle.protocol.proofs.claims.Claim.{Disjoint, HomeWord, Half, word_in, Agrees, Claim, Moves, claim_moves}
use Rattle.protocol.proofs.claims.Claim.{claim_cleared, claim_kept}
use Rattle.protocol.proofs.claims.Halves.{on_pages_lem, tentative_misses, committed_misses, pending_first}
use Rattle.protocol.proofs.claims.Halves.{pending_done, committed_early, committed_late, committed-first}
use Rattle.protocol.proofs.claims.Halves.{tentatives, committeds}

-- the book's prices after a step: counted with the release's own if the step counts it
pub record PricesAfter (k s : ℕ) (price price' : ℕ → ℕ) (applied : ℕ → ℕ) : Type 0 where
  pub counts : suc s ≡ counts_at k → (label : ℕ) → price' label ≡ applied label
  pub plain : suc s ≢ counts_at k → (label : ℕ) → price' label ≡ price label

module _ (d : Directory) (backup : ℕ → ℕ) (release : ℕ → Opened) (price price' : ℕ → ℕ) (m m' : List ℕ) (c : ℕ)
    (few : c < 8)
    (r : Release) (list : List ℕ) (s : ℕ) (is : release c ≡ opened r list s) (eight : length r.desk ≡ desk_size)
    (before : s < 4 * length (list_prices list) + 10)
    (after : PricesAfter (length (list_prices list)) s price price'
    (λ label. applied_at (list_prices list) label (price label))) where
  -- a label that the release does not name keeps its price
  price_kept : (label : ℕ) → names (list_prices list) label ≡ false → price' label ≡ price label
  price_kept label unnamed =
      elim (ℕ_discrete (suc s) (counts_at (length (list_prices list)))) [
        | yes counts ↦ after.counts counts label ∙ applied_unnamed (list_prices list) label (price label) unnamed
        | no plain ↦ after.plain plain label
      ]

  -- the target of the tentative words stays
  due_kept : (label : ℕ)
      → applied_at (uncounted (opened r list (suc s))) label (price' label)
      ≡ applied_at (uncounted (opened r list s)) label
      (price label)
  due_kept label =
      elim (ℕ_discrete (suc s) (counts_at (length (list_prices list)))) [
        | yes counts ↦
            rw (
              uncounted_late r list (suc s) (omega arith),
              uncounted_early r list s (omega arith),
              after.counts
                  counts label,
            )
            (applied_none label _)
        | no plain ↦ rw (after.plain plain label) (go (dec_lt s (counts_at (length (list_prices list)))) plain)
      ]
    where
      go : Dec (s < counts_at (length (list_prices list))) → suc s ≢ counts_at (length (list_prices list))
          → applied_at (uncounted (opened r list (suc s))) label (price label)
          ≡ applied_at (uncounted (opened r list s)) label (price label)
      go (yes early) plain = rw (uncounted_early r list (suc s) (omega arith), uncounted_early r list s early)
      go (no late) plain = rw (uncounted_late r list (suc s) (omega arith), uncounted_late r list s (omega arith))

  module _ (H : Half d) (wrote : (h p w : ℕ) → HomeWord d h p w
      → word_in d H m' h p w
      ≡ written (step_write d (backup c) c r (list_prices list) s) h (page_at p + (H.half + w)) (word_in d H m h p w))
    where
      -- what a step's moves need beside its effect on c's own words
      moves : ((h p w : ℕ) → HomeWord d h p w → names (list_prices list) (32 * p + w) ≡ false
          → (step_write d (backup c) c r (list_prices list) s).card ≡ h
          → NotIn (written_region (step_write d (backup c) c r (list_prices list) s)) (page_at p + (H.half + w)))
          → ((h p w : ℕ) → HomeWord d h p w → Agrees d H c (opened r list s) price h p w (word_in d H m h p w)
          → Agrees d H c (opened r list (suc s)) price' h p w (word_in d H m' h p w))
          → Moves d H release price price' m m' c (opened r list (suc s))
      moves misses own =
          record {
            grows = λ label unnamed. rw is unnamed;
            same_price = price_kept;
            same_word = λ h p w word unnamed.
                wrote h p w word ∙ written_miss _ h _ (word_in d H m h p w) (misses h p w word unnamed);
            own = λ h p w word agrees. own h p w word (rw is at agrees);
          }

  within_writes : s < length (release_writes d (backup c) c r (list_prices list))
  within_writes = omega (arith, before, length_writes d (backup c) c r (list_prices list) eight)

  pub step_tentatives : ((h p w : ℕ) → HomeWord d h p w
      → word_in d (tentatives d backup) m' h p w
      ≡ written (step_write d (backup c) c r (list_prices list) s) h (page_at p + (tentative_half + w))
      (word_in d (tentatives d backup) m h p w))
      → Claim d (tentatives d backup) release price m
      → Claim d (tentatives d backup) (update release c (opened r list (suc s))) price' m'
  step_tentatives wrote =
      claim_moves d (tentatives d backup) release price price' m m' c (opened r list (suc s))
      (moves (tentatives d backup) wrote
      (λ h p w word unnamed. misses_at s within_writes
      (tentative_misses d (backup c) c r (list_prices list) few eight (on_pages_lem list) h p w word.word unnamed))
      (λ h p w word agrees.
      rw (wrote h p w word)
      (sym (pending_first d backup c r list s eight h _ _ before) ∙ agrees ∙ sym (due_kept (32 * p + w)))))

  -- before the count no committed word is written
  early_apart : suc s ≤ counts_at (length (list_prices list)) → (p w : ℕ) → w < page_size
      → NotIn (written_region (step_write d (backup c) c r (list_prices list) s)) (page_at p + (committed_half + w))
  early_apart early p w within = go (phase (length (list_prices list)) s (omega arith))
    where
      go : Phase (length (list_prices list)) s
          → NotIn (written_region (step_write d (backup c) c r (list_prices list) s)) (page_at p + (committed_half + w))
      go (to_tentative low) =
          let on = price_on_page 64 (list_prices list) (s / 2) no_price (on_pages_lem list) (omega arith) in
          rw (write_tentative d (backup c) c r (list_prices list) eight s low) (λ here. omega arith)
      go (to_desk j at inside) =
          rw (write_desk d (backup c) c r (list_prices list) eight s j at inside) (λ here. omega (arith, few))
      go (to_stamp at) =
          let long = length_number r.number in
          rw (write_stamp d (backup c) c r (list_prices list) eight s at) (λ here. omega (arith, few))
      go (to_committed j at inside) = absurd (omega arith)
      go (to_done at) = absurd (omega arith)
      go (to_close at) = absurd (omega arith)

  pub step_committeds : ((h p w : ℕ) → HomeWord d h p w
      → word_in d (committeds d backup) m' h p w
      ≡ written (step_write d (backup c) c r (list_prices list) s) h (page_at p + (committed_half + w))
      (word_in d (committeds d backup) m h p w))
      → Claim d (committeds d backup) release price m
      → Claim d (committeds d backup) (update release c (opened r list (suc s))) price' m'
  step_committeds wrote =
      claim_moves d (committeds d backup) release price price' m m' c (opened r list (suc s))
      (moves (committeds d backup) wrote
      (λ h p w word unnamed. misses_at s within_writes
      (committed_misses d (backup c) c r (list_prices list) few eight (on_pages_lem list) h p w word.word unnamed))
      own)
    where
      still : suc s ≤ counts_at (length (list_prices list)) → (h p w : ℕ) → HomeWord d h p w
          → word_in d (committeds d backup) m' h p w ≡ word_in d (committeds d backup) m h p w
      still early h p w word =
          wrote h p w word ∙ written_other_offset _ h _ (word_in d (committeds d backup) m h p w)
          (early_apart early p w word.word)

      own : (h p w : ℕ) → HomeWord d h p w
          → Agrees d (committeds d backup) c (opened r list s) price h p w (word_in d (committeds d backup) m h p w)
          → Agrees d (committeds d backup) c (opened r list (suc s)) price' h p w
          (word_in d (committeds d backup) m' h p w)
      own h p w word agrees = at (ℕ_discrete (suc s) (counts_at (length (list_prices list))))
        where
          at : Dec (suc s ≡ counts_at (length (list_prices list)))
              → Agrees d (committeds d backup) c (opened r list (suc s)) price' h p w
              (word_in d (committeds d backup) m' h p w)
          at (yes counts) =
              let was = sym (word_after_none h _ _)
              ∙ (rw (committed_early d backup c r list s eight (omega arith)) at agrees) ∙ applied_none
              (32 * p + w) _ in
              rw (
                still (omega arith) h p w word,
                committed_late d backup c r list (suc s) eight (omega arith),
                after.counts counts (32 * p + w),
              )
              (committed-first d backup c r list (suc s) eight few counts h p w _ word.word word.home
              ∙ ap (applied_at (list_prices list) (32 * p + w)) was ∙ sym (applied_none (32 * p + w) _))
          at (no plain) = rw (after.plain plain (32 * p + w))
              (going_on (dec_lt s (counts_at (length (list_prices list)))) plain)
            where
              going_on : Dec (s < counts_at (length (list_prices list))) → suc s ≢ counts_at (length (list_prices list))
                  → Agrees d (committeds d backup) c (opened r list (suc s)) price h p w
                  (word_in d (committeds d backup) m' h p w)
              going_on (yes early) plain =
                  rw (committed_early d backup c r list (suc s) eight (omega arith), still (omega arith) h p w word)
                  (rw (committed_early d backup c r list s eight early) at agrees)
              going_on (no late) plain =
                  rw (committed_late d backup c r list (suc s) eight (omega arith), wrote h p w word)
                  (sym (pending_first d backup c r list s eight h _ _ before)
                  ∙ (rw (committed_late d backup c r list s eight (omega arith)) at agrees))

-- ---- the close

module _ (d : Directory) (backup : ℕ → ℕ) (release : ℕ → Opened) (price : ℕ → ℕ) (m m' : List ℕ) (c : ℕ) (few : c < 8)
    (eights : (x : ℕ) → EightWords (release x)) (apart : Disjoint release) (r : Release) (list : List ℕ) (s : ℕ)
    (is : release c ≡ opened r list s) (past : 4 * length (list_prices list) + 10 ≤ s) where
  eight : length r.desk ≡ desk_size
  eight = rw is at (eights c)

  words_same : (H : Half d) → ((h p w : ℕ) → HomeWord d h p w → word_in d H m' h p w ≡ word_in d H m h p w)
      → (release' : ℕ → Opened) → Claim d H release' price m → Claim d H release' price m'
  words_same H same release' claim =
      claim_kept d d H H release' price m m' (λ c h p w word. word) (λ c h p w v word agrees. agrees) same claim

  pub close_tentatives : ((h p w : ℕ) → HomeWord d h p w
      → word_in d (tentatives d backup) m' h p w ≡ word_in d (tentatives d backup) m h p w)
      → Claim d (tentatives d backup) release price m → Claim d (tentatives d backup) (update release c none) price m'
  close_tentatives same claim =
      words_same (tentatives d backup) same (update release c none)
      (claim_cleared d (tentatives d backup) release price m c few eights apart
      (λ h p w v within. rw (is, pending_done d backup c r list s eight past) (word_after_none h _ v))
      (rw is (uncounted_late r list s (omega arith))) claim)

  pub close_committeds : ((h p w : ℕ) → HomeWord d h p w
      → word_in d (committeds d backup) m' h p w ≡ word_in d (committeds d backup) m h p w)
      → Claim d (committeds d backup) release price m → Claim d (committeds d backup) (update release c none) price m'
  close_committeds same claim =
      words_same (committeds d backup) same (update release c none)
      (claim_cleared d (committeds d backup) release price m c few eights apart
      (λ h p w v within.
      rw (is, committed_late d backup c r list s eight (omega arith), pending_done d backup c r list s eight past)
      (word_after_none h _ v))
      refl claim)
