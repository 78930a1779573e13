-- A rack that passed checks 1 and 2: within its limits, with homes that are cards and open releases that read well.
use Rattle.std.specs.Prelude.{ℕ, ◌<◌, ◌≡◌, List, Bool, true, false, length, ltb}
use Rattle.laws.proofs.Prelude.{arith}
use Rattle.laws.specs.Search.{any_below}
use Rattle.laws.proofs.Bools.{neither, and_first, and_second}
use Rattle.laws.proofs.Search.{none_below}
use Rattle.directory.specs.declared.Directory.{Directory}
use Rattle.directory.specs.Directory.{live_at, is_live, primary_of, secondary_of, next_live_of}
use Rattle.area.specs.Prelude.{load, area_size, open_flag, has_open_release}
use Rattle.protocol.specs.Release.{size_of}
use Rattle.protocol.specs.Checks.{few_live, bad_page, bad_status, bad_card, unfit_rack, awaits_recovery}
use Rattle.protocol.specs.Recovery.{awaited_card}
use Rattle.protocol.proofs.checks.ByCall.{Fits}
use Rattle.protocol.proofs.checks.ValidDirectory.{valid_directory}
use Rattle.protocol.proofs.checks.Limits.{Within, within_limits}
use Rattle.release.specs.Stepping.{CardIn, HomesIn, GoodRelease}
use Rattle.release.proofs.Callers.{card_in, good_release}
use Rattle.recovery.specs.Rack.{RackIn, OtherLive}
use Rattle.recovery.proofs.Kept.{some_live, next_below}

pub record ValidRack (d : Directory) (m : List ℕ) : Type 0 where
  pub within : Within (length m) d.cards d.pages
  pub primary_below : (p : ℕ) → p < d.pages → primary_of d p < d.cards
  pub secondary_below : (p : ℕ) → p < d.pages → secondary_of d p < d.cards
  pub beside : OtherLive d
  pub next_below : (c : ℕ) → next_live_of d c < d.cards
  pub awaited : awaits_recovery d.status ≡ true
      → (awaited_card d.status < d.cards) × (is_live d (awaited_card d.status) ≡ false)
  pub good : (c : ℕ) → c < d.cards → has_open_release d.live (size_of d) m c ≡ true → GoodRelease d.pages m c

-- ---- each part of check 2

open_good : (marks : List Bool) (pages : ℕ) (m : List ℕ) (c : ℕ) → bad_card marks pages m c ≡ false
    → has_open_release marks (area_size pages) m c ≡ true → GoodRelease pages m c
unfolding bad_card has_open_release
open_good marks pages m c passed opened =
    let live = and_first (live_at marks c) _ opened in
    let one = and_second (live_at marks c) _ opened in
    let release = neither (ltb 1 (load (area_size pages) m c open_flag)) _ (rw live at passed) in
    good_release pages m c (rw one at release.1)

-- ---- the whole

pub valid_rack : {d : Directory} {m : List ℕ} → Fits d m → ValidRack d m
unfolding unfit_rack
valid_rack {d} {m} fits =
    let live = neither (few_live d.live d.cards) _ fits.fit in
    let pages = neither (any_below (bad_page d) d.pages) _ live.1 in
    let cards = neither (bad_status d.cards d.live d.status) _ pages.1 in
    let keeps = valid_directory d m fits.fit in
    record {
      within = within_limits _ _ _ fits.limits;
      primary_below = keeps.primary_in;
      secondary_below = keeps.secondary_in;
      beside = keeps.beside;
      next_below = next_below (some_live keeps.beside);
      awaited = keeps.awaited;
      good = λ c below.
          open_good d.live d.pages m c (none_below (bad_card d.live d.pages m) _ cards.1 c below);
    }

module _ (d : Directory) (m : List ℕ) where
  -- what a step relies on
  pub homes_in : ValidRack d m → length d.live ≡ 8 → length d.primary ≡ 64 → length d.secondary ≡ 64
      → HomesIn d.live d.pages d.primary d.secondary (length m)
  homes_in fit marks primaries secondaries =
      let w = fit.within in
      let in-card : (c : ℕ) → c < d.cards → CardIn d.live (length m) (size_of d) c
      = λ c. card_in d.live (size_of d) marks w.cards_most w.whole
      in
      record {
        few = w.pages_most;
        primaries = omega arith;
        secondaries = omega arith;
        primary_in = λ p below. in-card _ (fit.primary_below p below);
        secondary_in = λ p below. in-card _ (fit.secondary_below p below);
      }

  -- what recovery and join rely on
  pub rack_in : ValidRack d m → length d.live ≡ 8 → RackIn d (length m)
  rack_in fit marks =
      let w = fit.within in
      record { few = w.pages_most; eight = w.cards_most; marks = marks; whole = w.whole }
