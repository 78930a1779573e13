-- What a list of writes, made in order, leaves in one word of a card's area.
use Rattle.std.specs.Prelude.{ℕ, zero, suc, ◌+◌, ◌*◌, ◌≤◌, ◌<◌, ◌≡◌, ◌≢◌, ◌⊎◌, List, [], ◌∷◌, ◌++◌, Bool, true, false}
use Rattle.std.specs.Prelude.{cond, ◌&&◌, length, get_or, drop, eqb, leb, ◌-◌}
use Rattle.laws.proofs.Prelude.{refl, sym, ap, ◌∙◌, inl, inr, true≢false, arith, ℕ_discrete, eq-eqb, ne_eqb, le-leb}
use Rattle.laws.proofs.Prelude.{lt-leb, dec_lt}
use lib.ListN.{get_or-eq_default}
use lib.Seq.{drop-cons}
use Rattle.laws.proofs.Lists.{get_or_within}
use Rattle.directory.specs.declared.Directory.{Directory}
use Rattle.directory.specs.Directory.{primary_of, secondary_of}
use Rattle.area.specs.Prelude.{page_at, page_size}
use Rattle.area.proofs.Prelude.{Region, region, NotIn}
use Rattle.diff.specs.declared.Price.{Price}
use Rattle.diff.specs.Prices.{label_of, names, applied_at}
use Rattle.diff.proofs.Prices.{names-first, names_later, applied_first, applied_later, applied_none}
use Rattle.diff.proofs.Stored.{OnPages}
use Rattle.protocol.specs.Release.{Write, write_of, no_write, price_write, price_writes, run_writes}

-- ---- one write

-- the words that a write is to
abbrev pub written_region : Write → Region
written_region w = region w.offset (length w.words)

-- what it makes of the word at an offset of a card; past the end of its words, what was there
unfoldable pub written : Write → ℕ → ℕ → ℕ → ℕ
written w card offset v =
    cond (eqb w.card card && leb w.offset offset) (get_or w.words (offset - w.offset) v) v

module _ (w : Write) (card offset v : ℕ) where
  pub written_here : w.card ≡ card → (j : ℕ) → j < length w.words → offset ≡ w.offset + j
      → written w card offset v ≡ get_or w.words j 0
  unfolding written
  written_here same j within at =
      let place : offset - w.offset ≡ j = omega arith in
      rw (eq-eqb w.card card same, le-leb w.offset offset (omega arith), place)
      (get_or_within w.words j v 0 within)

  pub written_other_card : w.card ≢ card → written w card offset v ≡ v
  unfolding written
  written_other_card other = rw (ne_eqb w.card card other)

  pub written_other_offset : NotIn (written_region w) offset → written w card offset v ≡ v
  unfolding written
  written_other_offset other = go (eqb w.card card) (dec_lt offset w.offset)
    where
      go : (same : Bool) → Dec (offset < w.offset)
          → cond (same && leb w.offset offset) (get_or w.words (offset - w.offset) v) v ≡ v
      go true (yes under) = rw (lt-leb w.offset offset under)
      go true (no past) =
          rw (le-leb w.offset offset (omega arith))
          (get_or-eq_default w.words v (past_end (dec_lt offset (w.offset + length w.words))))
        where
          past_end : Dec (offset < w.offset + length w.words) → length w.words ≤ offset - w.offset
          past_end (yes under) = absurd (other (omega arith, under))
          past_end (no above) = omega arith
      go false at = refl

-- a price written where it stands already
pub written_again : (card place offset card' v : ℕ) → written (write_of card place (v ∷ [])) card' offset v ≡ v
unfolding written
written_again card place offset card' v = go (eqb card card' && leb place offset) (offset - place)
  where
    go : (hit : Bool) (i : ℕ) → cond hit (get_or (v ∷ []) i v) v ≡ v
    go true zero = refl
    go true (suc i) = refl
    go false i = refl

-- ---- writes in order

unfoldable pub word_after : List Write → ℕ → ℕ → ℕ → ℕ
word_after [] card offset v = v
word_after (w ∷ ws) card offset v = word_after ws card offset (written w card offset v)

pub word_after_none : (card offset v : ℕ) → word_after [] card offset v ≡ v
unfolding word_after
word_after_none card offset v = refl

-- the writes from step s on: the first of them, and the rest
pub word_after-first : (ws : List Write) (s card offset v : ℕ) → s < length ws
    → word_after (drop s ws) card offset v
    ≡ word_after (drop (suc s) ws) card offset (written (get_or ws s no_write) card offset v)
unfolding word_after
word_after-first ws s card offset v within = rw (drop-cons ws s no_write within)

pub word_after-append : (us ws : List Write) (card offset v : ℕ)
    → word_after (us ++ ws) card offset v ≡ word_after ws card offset (word_after us card offset v)
unfolding word_after
word_after-append [] ws card offset v = refl
word_after-append (u ∷ us) ws card offset v = word_after-append us ws card offset (written u card offset v)

-- ---- writes that are not to a word

-- no write of the list is to the word
pub data Misses (card offset : ℕ) : List Write → Type 0 where
  misses_none : Misses card offset []
  misses_more : {w : Write} {ws : List Write} → (w.card ≡ card → NotIn (written_region w) offset)
      → Misses card offset ws
      → Misses card offset (w ∷ ws)

pub written_miss : (w : Write) (card offset v : ℕ) → (w.card ≡ card → NotIn (written_region w) offset)
    → written w card offset v ≡ v
written_miss w card offset v other =
    elim (ℕ_discrete w.card card) [
      | yes same ↦ written_other_offset w card offset v (other same)
      | no elsewhere ↦ written_other_card w card offset v elsewhere
    ]

pub word_after_miss : {card offset : ℕ} {ws : List Write} (v : ℕ) → Misses card offset ws
    → word_after ws card offset v ≡ v
unfolding word_after
word_after_miss v misses_none = refl
word_after_miss {card = card} {offset = offset} v (misses_more {w = w} other rest) =
    rw (written_miss w card offset v other) (word_after_miss v rest)

pub misses_append : {card offset : ℕ} {us ws : List Write} → Misses card offset us → Misses card offset ws
    → Misses card offset (us ++ ws)
misses_append misses_none b = b
misses_append (misses_more other rest) b = misses_more other (misses_append rest b)

pub misses_drop : {card offset : ℕ} {ws : List Write} (s : ℕ) → Misses card offset ws → Misses card offset (drop s ws)
misses_drop zero misses = misses
misses_drop (suc s) misses_none = misses_none
misses_drop (suc s) (misses_more other rest) = misses_drop s rest

pub misses_at : {card offset : ℕ} {ws : List Write} (s : ℕ) → s < length ws → Misses card offset ws
    → (get_or ws s no_write).card ≡ card → NotIn (written_region (get_or ws s no_write)) offset
misses_at s within misses_none = absurd (omega arith)
misses_at zero within (misses_more other rest) = other
misses_at (suc s) within (misses_more other rest) = misses_at s (omega arith) rest

-- a run of writes outside a word's offset
pub run_misses : (backup start : ℕ) (vs : List ℕ) (card offset : ℕ)
    → ((j : ℕ) → j < length vs → start + j ≢ offset) → Misses card offset (run_writes backup start vs)
run_misses backup start [] card offset apart = misses_none
run_misses backup start (v ∷ vs) card offset apart =
    let here : NotIn (region start 1) offset = λ inside. apart 0 (omega arith) (omega arith) in
    misses_more (λ _. here)
    (run_misses backup (suc start) vs card offset (λ j within e. apart (suc j) (omega arith) (omega arith)))

-- ---- the writes of prices

-- a home of a page
abbrev pub HomeOf : Directory → ℕ → ℕ → Type 0
HomeOf d h p = (h ≡ secondary_of d p) ⊎ (h ≡ primary_of d p)

module _ (d : Directory) (half : ℕ) where
  -- at an offset that no price has
  pub prices_miss : (ps : List Price) (card offset : ℕ)
      → ((p w : ℕ) → w < page_size → page_at p + (half + w) ≢ offset) → (pages : ℕ) → OnPages pages ps
      → Misses card offset (price_writes d half ps)
  prices_miss [] card offset apart pages on = misses_none
  prices_miss (p ∷ ps) card offset apart pages on =
      let here : NotIn (region (page_at p.page + (half + p.word)) 1) offset =
      λ inside. apart p.page p.word on.1 (omega arith) in
      misses_more (λ _. here) (misses_more (λ _. here) (prices_miss ps card offset apart pages on.2))

  -- at a label that no price names
  pub unnamed_miss : (ps : List Price) (card p w : ℕ) → w < page_size → half ≤ page_size → (pages : ℕ) → OnPages pages ps
      → names ps (32 * p + w) ≡ false → Misses card (page_at p + (half + w)) (price_writes d half ps)
  unnamed_miss [] card p w within small pages on none = misses_none
  unnamed_miss (q ∷ qs) card p w within small pages on none =
      go (ℕ_discrete (label_of q) (32 * p + w)) (unnamed_miss qs card p w within small pages on.2)
    where
      go : Dec (label_of q ≡ 32 * p + w)
          → (names qs (32 * p + w) ≡ false → Misses card (page_at p + (half + w)) (price_writes d half qs))
          → Misses card (page_at p + (half + w)) (price_writes d half (q ∷ qs))
      go (yes here) rest = absurd (true≢false (sym (names-first q qs (32 * p + w) here) ∙ none))
      go (no there) rest =
          let apart : NotIn (region (page_at q.page + (half + q.word)) 1) (page_at p + (half + w)) =
          λ inside. omega (arith, on.1, within) in
          misses_more (λ _. apart)
          (misses_more (λ _. apart) (rest (sym (names_later q qs (32 * p + w) there) ∙ none)))

  -- at a home of the label's page: all of them leave what applying the prices does
  pub word_after_prices : (ps : List Price) (h p w v : ℕ) → w < page_size → half ≤ page_size → HomeOf d h p → (pages : ℕ)
      → OnPages pages ps
      → word_after (price_writes d half ps) h (page_at p + (half + w)) v ≡ applied_at ps (32 * p + w) v
  unfolding word_after
  word_after_prices [] h p w v within small home pages on = sym (applied_none (32 * p + w) v)
  word_after_prices (q ∷ qs) h p w v within small home pages on =
      go (ℕ_discrete (label_of q) (32 * p + w)) (λ v. word_after_prices qs h p w v within small home pages on.2)
    where
      offset : ℕ
      offset = page_at p + (half + w)

      second : Write
      second = price_write (secondary_of d) half q

      first : Write
      first = price_write (primary_of d) half q

      -- the price reaches the home, whichever it is
      reached : q.page ≡ p → page_at q.page + (half + q.word) ≡ offset → HomeOf d h p
          → written first h offset (written second h offset v) ≡ q.price
      reached page at (inl home) =
          rw (written_here second h offset v (rw page (sym home)) 0 (omega arith) (omega (arith, at)))
          (written_again (primary_of d q.page) (page_at q.page + (half + q.word)) offset h q.price)
      reached page at (inr home) =
          written_here first h offset _ (rw page (sym home)) 0 (omega arith) (omega (arith, at))

      go : Dec (label_of q ≡ 32 * p + w)
          → ((v : ℕ) → word_after (price_writes d half qs) h offset v ≡ applied_at qs (32 * p + w) v)
          → word_after (price_writes d half qs) h offset (written first h offset (written second h offset v))
          ≡ applied_at (q ∷ qs) (32 * p + w) v
      go (yes here) rest =
          let page : q.page ≡ p = omega (arith, on.1, within) in
          let at : page_at q.page + (half + q.word) ≡ offset = omega (arith, on.1, within) in
          rest _ ∙ ap (applied_at qs (32 * p + w)) (reached page at home) ∙ sym (applied_first q qs (32 * p + w) v here)
      go (no there) rest =
          let apart : NotIn (region (page_at q.page + (half + q.word)) 1) offset =
          λ inside. omega (arith, on.1, within) in
          rw (written_other_offset second h offset v apart, written_other_offset first h offset v apart)
          (rest v ∙ sym (applied_later q qs (32 * p + w) v there))
