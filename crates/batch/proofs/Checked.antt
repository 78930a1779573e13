-- A step that was accepted keeps checks 1 and 2: of each card it leaves the words that they look at, but for its own
-- steps. So the next step is accepted too, and after the close it is refused with 16.
use Rattle.std.specs.Prelude.{ℕ, suc, ◌+◌, ◌-◌, ◌*◌, ◌<◌, ◌≡◌, List, Bool, true, false, length, eqb}
use Rattle.laws.proofs.Prelude.{refl, sym, ◌∙◌, arith, ℕ_discrete, eqb-true, le-ltb}
use Rattle.laws.proofs.Bools.{and_first, and_second}
use Rattle.laws.proofs.Search.{lowest_same}
use Rattle.directory.specs.declared.Directory.{Directory}
use Rattle.directory.specs.Directory.{live_at, backup_of}
use Rattle.area.specs.Prelude.{AreaIn, load, area_size, open_flag, has_open_release, steps_of}
use Rattle.area.proofs.Prelude.{area_in, SameOwn, SameRelease, same_own_release, list_kept, is_open_kept, steps_kept}
use Rattle.protocol.specs.Release.{size_of, open_prices, step_memory}
use Rattle.protocol.specs.Checks.{bad_release, bad_card, unfit_rack}
use Rattle.protocol.proofs.checks.ByCall.{Runs, StepPassed}
use Rattle.protocol.proofs.release.Close.{close_flag, close_not_open}
use Rattle.release.specs.Stepping.{GoodRelease, left_of}
use Rattle.release.proofs.Stores.{length-desk, step-closed}
use Rattle.release.proofs.Kept.{steps_more, step_keeps_own, step_keeps_others}
use Rattle.release.proofs.Left.{counted}
use Rattle.rack.proofs.ValidRack.{valid_rack}

-- a rack on which the card's release was closed
pub record Shut (d : Directory) (m : List ℕ) (c : ℕ) : Type 0 where
  pub runs : Runs d m
  pub shut : has_open_release d.live (size_of d) m c ≡ false

-- ---- check 2, card by card

good_card : (marks : List Bool) (pages : ℕ) (m : List ℕ) (c : ℕ) → has_open_release marks (area_size pages) m c ≡ true
    → GoodRelease pages m c → bad_card marks pages m c ≡ false
unfolding bad_card bad_release has_open_release
good_card marks pages m c opened good =
    let word = load (area_size pages) m c open_flag in
    let one = eqb-true word 1 (and_second (live_at marks c) (eqb word 1) opened) in
    rw (and_first (live_at marks c) (eqb word 1) opened, one, good.reads)
    (le-ltb (4 * good.k + 10) (steps_of (area_size pages) m c) good.under)

module _ (d : Directory) (m m' : List ℕ) where
  same_card : (x : ℕ) → SameOwn (size_of d) m m' x
      → bad_card d.live d.pages m' x ≡ bad_card d.live d.pages m x
  unfolding bad_card
  same_card x same =
      rw (
        same.low open_flag (omega arith),
        list_kept (size_of d) m m' x (same_own_release (size_of d) m m' x same),
        steps_kept (size_of d) m m' x same,
      )

  runs_kept : length m' ≡ length m
      → ((x : ℕ) → bad_card d.live d.pages m' x ≡ bad_card d.live d.pages m x) → Runs d m → Runs d m'
  unfolding unfit_rack
  runs_kept long same runs =
      record {
        fits = record {
          limits = rw long runs.fits.limits;
          fit = rw (lowest_same (bad_card d.live d.pages m') (bad_card d.live d.pages m) same 0 d.cards)
              runs.fits.fit;
        };
        running = runs.running;
      }

-- ---- a step

module _ (d : Directory) (m : List ℕ) (c : ℕ) (passed : StepPassed d m c) where
  abbrev next : List ℕ
  next = step_memory d (backup_of d c) m c

  few : c < 8
  few = let most = (valid_rack passed.runs.fits).within.cards_most in omega (arith, passed.below)

  area : AreaIn (length m) (size_of d) c
  area = area_in (size_of d) passed.below (valid_rack passed.runs.fits).within.whole

  good : GoodRelease d.pages m c
  good = (valid_rack passed.runs.fits).good c passed.below passed.is_open

  all_prices : good.k ≡ length (open_prices d.pages m c)
  all_prices = (counted d.pages m c good).prices

  pub some_left : 0 < left_of d.pages m c
  some_left = omega (arith, all_prices, good.under)

  others : (x : ℕ) → (x ≡ c → ⊥) → SameOwn (size_of d) m next x
  others = step_keeps_others d (backup_of d c) m c few area (omega (arith, all_prices, good.under))

  next_runs : bad_card d.live d.pages next c ≡ false → Runs d next
  next_runs own =
      runs_kept d m next (others (suc c) (λ e. omega arith)).same_length (λ x. elim (ℕ_discrete x c) [
        | yes same ↦ rw same (own ∙ sym (good_card d.live d.pages m c passed.is_open good))
        | no other ↦ same_card d m next x (others x other)
      ]) passed.runs

  -- before the close
  module _ (more : 1 < left_of d.pages m c) where
    own : SameRelease (size_of d) m next c
    own = step_keeps_own d (backup_of d c) m c few area (omega arith)

    next_good : GoodRelease d.pages next c
    next_good =
        let steps = steps_more d (backup_of d c) m c few area (omega arith) in
        record {
          k = good.k;
          words = good.words;
          reads = rw (list_kept (size_of d) m next c own) good.reads;
          under = omega (arith, all_prices);
        }

    pub next_passed : StepPassed d next c
    next_passed =
        let opened = is_open_kept (size_of d) m next c own d.live ∙ passed.is_open in
        record {
          runs = next_runs (good_card d.live d.pages next c opened next_good);
          below = passed.below;
          live = passed.live;
          is_open = opened;
        }

    pub one_fewer : left_of d.pages next c ≡ left_of d.pages m c - 1
    one_fewer =
        rw (list_kept (size_of d) m next c own, steps_more d (backup_of d c) m c few area (omega arith)) (omega arith)

  -- the close
  pub next_shut : left_of d.pages m c ≡ 1 → Shut d next c
  unfolding bad_card
  next_shut last =
      let eight = length-desk (size_of d) m c (omega arith) area in
      let closes = step-closed d (backup_of d c) m c _ area refl (omega (arith, all_prices, good.under)) in
      let zero : bad_card d.live d.pages next c ≡ false
      = rw (closes, passed.live, close_flag (size_of d) m c (omega arith) eight area)
      in
      let shut = close_not_open (size_of d) m c (omega arith) eight area d.live in
      record { runs = next_runs zero; shut = rw closes shut }
