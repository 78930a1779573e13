-- What one step writes goes by nothing past a directory's cards and pages: the prices are on pages that the rack has,
-- and their homes and the backup are cards that it has.
use Rattle.std.specs.Prelude.{ℕ, zero, suc, ◌<◌, ◌≡◌, List, [], ◌∷◌, ◌++◌, get_or}
use Rattle.laws.proofs.Prelude.{refl, arith}
use Rattle.directory.specs.declared.Directory.{Directory}
use Rattle.area.specs.Prelude.{record_desk, tentative_half, committed_half, Release, open_release, open_list, steps_of}
use Rattle.diff.specs.declared.Price.{Price}
use Rattle.diff.proofs.Stored.{OnPages, prices_on_pages}
use Rattle.protocol.specs.Release.{size_of, open_prices, Write, no_write, price_writes, run_writes, release_writes}
use Rattle.protocol.specs.Release.{make_write, step_memory}
use Rattle.protocol.specs.PastLimits.{below_limits}
use Rattle.protocol.proofs.checks.ValidDirectory.{ValidDirectory}
use Rattle.protocol.proofs.past_limits.Directory.{marks_below, live_below, primary_below, secondary_below}

-- ---- writes to cards that the rack has

data OnCards (cards : ℕ) : List Write → Type 0 where
  on_none : OnCards cards []
  on_more : {w : Write} {ws : List Write} → w.card < cards → OnCards cards ws → OnCards cards (w ∷ ws)

on_both : {cards : ℕ} {us ws : List Write} → OnCards cards us → OnCards cards ws → OnCards cards (us ++ ws)
on_both on_none second = second
on_both (on_more real first) second = on_more real (on_both first second)

on_run : {cards : ℕ} (card offset : ℕ) (vs : List ℕ) → card < cards → OnCards cards (run_writes card offset vs)
on_run card offset [] real = on_none
on_run card offset (v ∷ vs) real = on_more real (on_run card (suc offset) vs real)

write_on : {cards : ℕ} {ws : List Write} (i : ℕ) → 0 < cards → OnCards cards ws → (get_or ws i no_write).card < cards
write_on i some on_none = some
write_on zero some (on_more real on) = real
write_on (suc i) some (on_more real on) = write_on i some on

module _ (d : Directory) where
  prices_on_lem : ValidDirectory d → (half : ℕ) (ps : List Price) → OnPages d.pages ps
      → OnCards d.cards (price_writes d half ps)
  prices_on_lem fit half [] on = on_none
  prices_on_lem fit half (p ∷ ps) on =
      on_more (fit.secondary_in p.page on.0)
      (on_more (fit.primary_in p.page on.0) (prices_on_lem fit half ps on.2))

  prices_below : (half : ℕ) (ps : List Price) → OnPages d.pages ps
      → price_writes (below_limits d) half ps ≡ price_writes d half ps
  prices_below half [] on = refl
  prices_below half (p ∷ ps) on =
      rw (primary_below d p.page on.0, secondary_below d p.page on.0, prices_below half ps on.2)

  module _ (backup c : ℕ) (r : Release) (ps : List Price) (on : OnPages d.pages ps) where
    writes_below : release_writes (below_limits d) backup c r ps ≡ release_writes d backup c r ps
    unfolding release_writes
    writes_below = rw (prices_below tentative_half ps on, prices_below committed_half ps on)

    writes_on : ValidDirectory d → backup < d.cards → OnCards d.cards (release_writes d backup c r ps)
    unfolding release_writes
    writes_on fit real =
        on_both (prices_on_lem fit tentative_half ps on)
        (on_both (on_run backup (record_desk c r.number) r.desk real)
        (on_more real (on_both (prices_on_lem fit committed_half ps on) (on_more real on_none))))

  -- ---- one step

  make_below : (m : List ℕ) (w : Write) → w.card < d.cards
      → make_write (marks_below d) (size_of d) m w ≡ make_write d.live (size_of d) m w
  unfolding make_write
  make_below m w real = rw (live_below d w.card real)

  pub step_memory_below : ValidDirectory d → (backup : ℕ) → backup < d.cards → (m : List ℕ) (c : ℕ)
      → step_memory (below_limits d) backup m c ≡ step_memory d backup m c
  unfolding step_memory
  step_memory_below fit backup real m c =
      let r : Release = open_release (size_of d) m c in
      let ps : List Price = open_prices d.pages m c in
      let on = prices_on_pages d.pages (open_list (size_of d) m c) in
      let writes : List Write = release_writes d backup c r ps in
      rw (
        writes_below backup c r ps on,
        make_below m (get_or writes (steps_of (size_of d) m c) no_write)
            (write_on _ (omega arith) (writes_on backup c r ps on fit real)),
      )
