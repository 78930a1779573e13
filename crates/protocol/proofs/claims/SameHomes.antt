-- Directories with the same homes have the same stores still to make.
use Rattle.std.specs.Prelude.{ℕ, ◌≡◌, List, [], ◌∷◌}
use Rattle.laws.proofs.Prelude.{refl}
use Rattle.directory.specs.declared.Directory.{Directory}
use Rattle.area.specs.Prelude.{tentative_half, committed_half, Release}
use Rattle.diff.specs.declared.Price.{Price}
use Rattle.protocol.specs.Release.{price_writes, release_writes}
use Rattle.protocol.specs.Book.{Opened, none, opened, list_prices}
use Rattle.protocol.proofs.claims.Halves.{pending, pending_committed}

module _ (d d' : Directory) (firsts : d'.primary ≡ d.primary) (seconds : d'.secondary ≡ d.secondary) where
  prices_same : (half : ℕ) (ps : List Price) → price_writes d' half ps ≡ price_writes d half ps
  prices_same half [] = refl
  prices_same half (p ∷ ps) = rw (prices_same half ps, firsts, seconds)

  pub writes_same : (backup c : ℕ) (r : Release) (ps : List Price)
      → release_writes d' backup c r ps ≡ release_writes d backup c r ps
  unfolding release_writes
  writes_same backup c r ps = rw (prices_same tentative_half ps, prices_same committed_half ps)

  pub pending_same : (backup : ℕ → ℕ) (c : ℕ) (R : Opened) → pending d' backup c R ≡ pending d backup c R
  unfolding pending
  pending_same backup c none = refl
  pending_same backup c (opened r list s) = rw (writes_same (backup c) c r (list_prices list))

  pub committed_same : (backup : ℕ → ℕ) (c : ℕ) (R : Opened)
      → pending_committed d' backup c R ≡ pending_committed d backup c R
  unfolding pending_committed
  committed_same backup c none = refl
  committed_same backup c (opened r list s) = rw (writes_same (backup c) c r (list_prices list))
