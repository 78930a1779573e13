-- The two halves of the pages, tentative and committed, as claims on them speak of them.
use Rattle.std.specs.Prelude.{ℕ, suc, ◌+◌, ◌-◌, ◌*◌, ◌≤◌, ◌<◌, ◌≡◌, List, [], ◌∷◌, ◌++◌, Bool, true, false, cond}
use Rattle.std.specs.Prelude.{length, drop, ltb}
use Rattle.laws.proofs.Prelude.{refl, ◌∙◌, arith, lt-ltb, le-ltb}
use lib.ListN.{drop_of_length-le}
use lib.Seq.{drop-append-add}
use Rattle.directory.specs.declared.Directory.{Directory}
use Rattle.area.specs.Prelude.{page_at, tentative_half, committed_half, record_stamp, record_done, record_desk, number_size}
use Rattle.area.specs.Prelude.{desk_size, pages_start, page_size, Release, number_words}
use Rattle.area.proofs.Prelude.{length_number, NotIn}
use Rattle.diff.specs.declared.Price.{Price}
use Rattle.diff.specs.Prices.{names, applied_at}
use Rattle.diff.proofs.Prices.{applied_none, applied_unnamed}
use Rattle.diff.proofs.Stored.{OnPages, prices_on_pages}
use Rattle.protocol.specs.Release.{Write, write_of, price_writes, run_writes, release_writes, counts_at}
use Rattle.protocol.specs.Book.{Opened, none, opened, list_prices, prices_in}
use Rattle.protocol.proofs.release.Writes.{length_writes, length_price_writes, length_run_writes}
use Rattle.protocol.proofs.release.WordAfter.{word_after, word_after_none, word_after-first, word_after-append}
use Rattle.protocol.proofs.release.WordAfter.{word_after_miss, written, written_region, Misses, misses_none, misses_more}
use Rattle.protocol.proofs.release.WordAfter.{misses_append, misses_drop, run_misses, prices_miss, unnamed_miss}
use Rattle.protocol.proofs.release.WordAfter.{word_after_prices, HomeOf}
use Rattle.protocol.proofs.book.Changes.{EightWords, uncounted, uncounted_none}
use Rattle.protocol.proofs.claims.Claim.{Half}
use Rattle.protocol.proofs.release.Step.{step_write}

-- the prices of any list are on pages that a rack may have
pub on_pages_lem : (list : List ℕ) → OnPages 64 (list_prices list)
on_pages_lem list = prices_on_pages 64 list

-- what is left of two lists past the first
drop_part : (us ws : List Write) (s n : ℕ) → s ≡ length us + n → drop s (us ++ ws) ≡ drop n ws
drop_part us ws s n at = rw at (drop-append-add us ws n)

-- ---- the writes of a release, at a page word

module _ (d : Directory) (backup c : ℕ) (r : Release) (ps : List Price) (few : c < 8)
    (eight : length r.desk ≡ desk_size)
    (on : OnPages 64 ps) where
  -- the records stand below the pages
  records_miss : (card p w half : ℕ) → w < page_size → half ≤ page_size
      → Misses card (page_at p + (half + w)) (run_writes backup (record_desk c r.number) r.desk)
  records_miss card p w half within small =
      run_misses backup (record_desk c r.number) r.desk card _ (λ j inside e. omega arith)

  number_misses : (p w half offset : ℕ) → offset + number_size ≤ pages_start
      → NotIn (written_region (write_of backup offset (number_words r.number))) (page_at p + (half + w))
  number_misses p w half offset below inside = let long = length_number r.number in omega arith

  -- what follows the desk, if the committed words miss it
  stamp_on : (card p w half : ℕ) → Misses card (page_at p + (half + w)) (price_writes d committed_half ps)
      → Misses card (page_at p + (half + w))
      (write_of backup (record_stamp c) (number_words r.number)
      ∷ price_writes d committed_half ps
      ++ write_of backup (record_done c) (number_words r.number) ∷ [])
  stamp_on card p w half second =
      misses_more (λ _. number_misses p w half (record_stamp c) (omega arith))
      (misses_append second (misses_more (λ _. number_misses p w half (record_done c) (omega arith)) misses_none))

  -- the writes miss a page word if both halves' writes do
  all_miss : (card p w half : ℕ) → w < page_size → half ≤ page_size
      → Misses card (page_at p + (half + w)) (price_writes d tentative_half ps)
      → Misses card (page_at p + (half + w)) (price_writes d committed_half ps)
      → Misses card (page_at p + (half + w)) (release_writes d backup c r ps)
  unfolding release_writes
  all_miss card p w half within small first second =
      misses_append first (misses_append (records_miss card p w half within small) (stamp_on card p w half second))

  -- at a label that the prices do not name
  pub tentative_misses : (card p w : ℕ) → w < page_size → names ps (32 * p + w) ≡ false
      → Misses card (page_at p + (tentative_half + w)) (release_writes d backup c r ps)
  tentative_misses card p w within unnamed =
      all_miss card p w tentative_half within (omega arith)
      (unnamed_miss d tentative_half ps card p w within (omega arith) 64 on unnamed)
      (prices_miss d committed_half ps card _ (λ q v inside e. omega arith) 64 on)

  pub committed_misses : (card p w : ℕ) → w < page_size → names ps (32 * p + w) ≡ false
      → Misses card (page_at p + (committed_half + w)) (release_writes d backup c r ps)
  committed_misses card p w within unnamed =
      all_miss card p w committed_half within (omega arith)
      (prices_miss d tentative_half ps card _ (λ q v inside e. omega arith) 64 on)
      (unnamed_miss d committed_half ps card p w within (omega arith) 64 on unnamed)

  -- what follows the tentative words misses them
  after-tentative : (card p w s : ℕ) → w < page_size → 2 * length ps ≤ s
      → Misses card (page_at p + (tentative_half + w)) (drop s (release_writes d backup c r ps))
  unfolding release_writes
  after-tentative card p w s within late =
      let second = prices_miss d committed_half ps card (page_at p + (tentative_half + w))
      (λ q u inside e. omega arith) 64 on in
      let at : s ≡ length (price_writes d tentative_half ps) + (s - 2 * length ps) =
      omega (arith, length_price_writes d tentative_half ps) in
      rw (drop_part (price_writes d tentative_half ps) _ s (s - 2 * length ps) at)
      (misses_drop (s - 2 * length ps)
      (misses_append (records_miss card p w tentative_half within (omega arith))
      (stamp_on card p w tentative_half second)))

  -- what follows the stamp
  after_stamp : drop (counts_at (length ps)) (release_writes d backup c r ps)
      ≡ price_writes d committed_half ps ++ write_of backup (record_done c) (number_words r.number) ∷ []
  unfolding release_writes
  after_stamp =
      let first = length_price_writes d tentative_half ps in
      let desk = length_run_writes backup (record_desk c r.number) r.desk ∙ eight in
      drop_part (price_writes d tentative_half ps) _ (counts_at (length ps)) 9 (omega arith)
      ∙ drop_part (run_writes backup (record_desk c r.number) r.desk) _ 9 1 (omega arith)

  -- the writes from the count on apply the prices to the committed words
  pub word_after-committed : (h p w v : ℕ) → w < page_size → HomeOf d h p
      → word_after (drop (counts_at (length ps)) (release_writes d backup c r ps)) h (page_at p + (committed_half + w)) v
      ≡ applied_at ps (32 * p + w) v
  word_after-committed h p w v within home =
      rw after_stamp
      (word_after-append (price_writes d committed_half ps) _ h (page_at p + (committed_half + w)) v
      ∙ word_after_miss _ (misses_more (λ _. number_misses p w committed_half (record_done c) (omega arith)) misses_none)
      ∙ word_after_prices d committed_half ps h p w v within (omega arith) home 64 on)

  -- all of them apply the prices to the tentative words
  pub word_after-tentative : (h p w v : ℕ) → w < page_size → HomeOf d h p
      → word_after (release_writes d backup c r ps) h (page_at p + (tentative_half + w)) v ≡ applied_at ps (32 * p + w) v
  unfolding release_writes
  word_after-tentative h p w v within home =
      let second = prices_miss d committed_half ps h (page_at p + (tentative_half + w)) (λ q u inside e. omega arith)
      64 on in
      word_after-append (price_writes d tentative_half ps) _ h (page_at p + (tentative_half + w)) v
      ∙ word_after_miss _
      (misses_append (records_miss h p w tentative_half within (omega arith)) (stamp_on h p w tentative_half second))
      ∙ word_after_prices d tentative_half ps h p w v within (omega arith) home 64 on

-- ---- what a card's release has still to write

-- all writes from its steps on
unfoldable pub pending : Directory → (ℕ → ℕ) → ℕ → Opened → List Write
pending d backup c none = []
pending d backup c (opened r list s) = drop s (release_writes d (backup c) c r (list_prices list))

-- the same once the release counts; before, no committed word is to change
unfoldable pub pending_committed : Directory → (ℕ → ℕ) → ℕ → Opened → List Write
pending_committed d backup c none = []
pending_committed d backup c (opened r list s) =
    cond (ltb s (counts_at (length (list_prices list)))) [] (drop s (release_writes d (backup c) c r (list_prices list)))

module _ (d : Directory) (backup : ℕ → ℕ) where
  pub pending_none : (c : ℕ) → pending d backup c none ≡ []
  unfolding pending
  pending_none c = refl

  pub committed_none : (c : ℕ) → pending_committed d backup c none ≡ []
  unfolding pending_committed
  committed_none c = refl

  pub pending_unnamed : (c h p w v : ℕ) (R : Opened) → c < 8 → EightWords R → w < page_size
      → names (prices_in R) (32 * p + w) ≡ false
      → word_after (pending d backup c R) h (page_at p + (tentative_half + w)) v ≡ v
  unfolding pending
  pending_unnamed c h p w v none few eight within unnamed = word_after_none h _ v
  pending_unnamed c h p w v (opened r list s) few eight within unnamed =
      word_after_miss v
      (misses_drop s (tentative_misses d (backup c) c r (list_prices list) few eight (on_pages_lem list) h p w within
      unnamed))

  pub committed_unnamed : (c h p w v : ℕ) (R : Opened) → c < 8 → EightWords R → w < page_size
      → names (prices_in R) (32 * p + w) ≡ false
      → word_after (pending_committed d backup c R) h (page_at p + (committed_half + w)) v ≡ v
  unfolding pending_committed
  committed_unnamed c h p w v none few eight within unnamed = word_after_none h _ v
  committed_unnamed c h p w v (opened r list s) few eight within unnamed = go
      (ltb s (counts_at (length (list_prices list))))
    where
      go : (early : Bool)
          → word_after (cond early [] (drop s (release_writes d (backup c) c r (list_prices list)))) h
          (page_at p + (committed_half + w)) v
          ≡ v
      go true = word_after_none h _ v
      go false =
          word_after_miss v
          (misses_drop s (committed_misses d (backup c) c r (list_prices list) few eight (on_pages_lem list) h p w within
          unnamed))

-- the writes of an open release, one step on
module _ (d : Directory) (backup : ℕ → ℕ) (c : ℕ) (r : Release) (list : List ℕ) (s : ℕ)
    (eight : length r.desk ≡ desk_size)
  where
    pub pending_first : (h o v : ℕ) → s < 4 * length (list_prices list) + 10
        → word_after (pending d backup c (opened r list s)) h o v
        ≡ word_after (pending d backup c (opened r list (suc s))) h o
        (written (step_write d (backup c) c r (list_prices list) s) h o v)
    unfolding pending
    pending_first h o v before =
        word_after-first (release_writes d (backup c) c r (list_prices list)) s h o v
        (omega (arith, length_writes d (backup c) c r (list_prices list) eight))

    pub pending_done : 4 * length (list_prices list) + 10 ≤ s → pending d backup c (opened r list s) ≡ []
    unfolding pending
    pending_done past =
        drop_of_length-le (release_writes d (backup c) c r (list_prices list)) {i = s}
        (omega (arith, length_writes d (backup c) c r (list_prices list) eight))

    -- once the tentative words are written none of them is to be
    pub tentative_late : c < 8 → 2 * length (list_prices list) ≤ s → (h p w v : ℕ) → w < page_size
        → word_after (pending d backup c (opened r list s)) h (page_at p + (tentative_half + w)) v ≡ v
    unfolding pending
    tentative_late few late h p w v within =
        word_after_miss v
        (after-tentative d (backup c) c r (list_prices list) few eight (on_pages_lem list) h p w s within late)

    -- at the opening the tentative words are all to be written
    pub tentative-first : c < 8 → s ≡ 0 → (h p w v : ℕ) → w < page_size → HomeOf d h p
        → word_after (pending d backup c (opened r list s)) h (page_at p + (tentative_half + w)) v
        ≡ applied_at (list_prices list) (32 * p + w) v
    unfolding pending
    tentative-first few opening h p w v within home =
        rw opening
        (word_after-tentative d (backup c) c r (list_prices list) few eight (on_pages_lem list) h p w v within home)

    -- at the count the committed words are all to be written
    pub committed-first : c < 8 → s ≡ counts_at (length (list_prices list)) → (h p w v : ℕ) → w < page_size → HomeOf d h p
        → word_after (pending d backup c (opened r list s)) h (page_at p + (committed_half + w)) v
        ≡ applied_at (list_prices list) (32 * p + w) v
    unfolding pending
    committed-first few counts h p w v within home =
        rw counts
        (word_after-committed d (backup c) c r (list_prices list) few eight (on_pages_lem list) h p w v within home)

    pub committed_early : s < counts_at (length (list_prices list)) → pending_committed d backup c (opened r list s) ≡ []
    unfolding pending_committed
    committed_early early = rw (lt-ltb s (counts_at (length (list_prices list))) early)

    pub committed_late : counts_at (length (list_prices list)) ≤ s
        → pending_committed d backup c (opened r list s) ≡ pending d backup c (opened r list s)
    unfolding pending_committed pending
    committed_late late = rw (le-ltb s (counts_at (length (list_prices list))) late)

pub uncounted_unnamed : (label v : ℕ) (R : Opened) → names (prices_in R) label ≡ false
    → applied_at (uncounted R) label v ≡ v
unfolding uncounted
uncounted_unnamed label v none unnamed = applied_none label v
uncounted_unnamed label v (opened r list s) unnamed = go (ltb s (counts_at (length (list_prices list))))
  where
    go : (early : Bool) → applied_at (cond early (list_prices list) []) label v ≡ v
    go true = applied_unnamed (list_prices list) label v unnamed
    go false = applied_none label v

-- ---- the halves

abbrev pub tentatives : (d : Directory) → (ℕ → ℕ) → Half d
tentatives d backup =
    record {
      half = tentative_half;
      todo = pending d backup;
      due = uncounted;
      todo_none = pending_none d backup;
      due_none = uncounted_none;
      todo_unnamed = pending_unnamed d backup;
      due_unnamed = uncounted_unnamed;
    }

abbrev pub committeds : (d : Directory) → (ℕ → ℕ) → Half d
committeds d backup =
    record {
      half = committed_half;
      todo = pending_committed d backup;
      due = λ R. [];
      todo_none = committed_none d backup;
      due_none = refl;
      todo_unnamed = committed_unnamed d backup;
      due_unnamed = λ label v R unnamed. applied_none label v;
    }
