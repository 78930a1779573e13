-- What a step of a release leaves as it was: the list of every card and what stands before its records, but for its
-- own steps.
use Rattle.std.specs.Prelude.{ℕ, ◌+◌, ◌*◌, ◌<◌, ◌≤◌, ◌≡◌, ◌≢◌, List, length}
use Rattle.laws.proofs.Prelude.{refl, sym, ◌∙◌, inl, dec_lt, arith}
use native.Mathlib.Numerals.{add-one}
use Rattle.directory.specs.declared.Directory.{Directory}
use Rattle.area.specs.Prelude.{AreaIn, open_release, steps_of}
use Rattle.area.proofs.Prelude.{SameOwn, SameRelease}
use Rattle.protocol.specs.Release.{size_of, open_prices, close, step_memory}
use Rattle.protocol.proofs.release.Step.{StandsIn, length-step, steps-step, step_keeps, step_keeps_other}
use Rattle.protocol.proofs.release.Close.{length-close, load-close}
use Rattle.release.proofs.Stores.{length-desk, stands_here, step-closed}

module _ (d : Directory) (backup : ℕ) (m : List ℕ) (c : ℕ) (few : c < 8) (area : AreaIn (length m) (size_of d) c) where
  abbrev made : ℕ
  made = steps_of (size_of d) m c

  abbrev prices : ℕ
  prices = length (open_prices d.pages m c)

  stands : StandsIn d.pages m c (open_release (size_of d) m c) (open_prices d.pages m c) made
  stands = stands_here d m c refl

  -- ---- before the close

  module _ (before : made < 4 * prices + 10) where
    pub steps_more : steps_of (size_of d) (step_memory d backup m c) c ≡ made + 1
    steps_more = steps-step d backup m c area stands few before ∙ sym (add-one made)

    pub step_keeps_own : SameRelease (size_of d) m (step_memory d backup m c) c
    step_keeps_own = step_keeps d backup m c area stands few before

  -- ---- any step

  module _ (under : made ≤ 4 * prices + 10) where
    pub step-length : length (step_memory d backup m c) ≡ length m
    step-length =
        elim (dec_lt made (4 * prices + 10)) [
          | yes before ↦ length-step d backup m c area stands few before
          | no last ↦
              rw (step-closed d backup m c made area refl (omega arith)) (length-close (size_of d) m c (omega arith))
        ]

    pub step_keeps_others : (x : ℕ) → x ≢ c → SameOwn (size_of d) m (step_memory d backup m c) x
    step_keeps_others x other =
        elim (dec_lt made (4 * prices + 10)) [
          | yes before ↦ step_keeps_other d backup m c area stands few before x other
          | no last ↦ rw (step-closed d backup m c made area refl (omega arith)) closed
        ]
      where
        closed : SameOwn (size_of d) m (close (size_of d) m c) x
        closed =
            let eight = length-desk (size_of d) m c (omega arith) area in
            record {
              same_length = length-close (size_of d) m c (omega arith);
              low = λ o small. load-close (size_of d) m c (omega arith) eight x o (omega arith) (inl other);
              list = λ o inside. load-close (size_of d) m c (omega arith) eight x o (omega arith) (inl other);
            }
