-- What an accepted call has passed: each of its checks, by name.
use Rattle.std.specs.Prelude.{ℕ, ◌+◌, ◌<◌, ◌≡◌, List, ◌++◌, true, false, not, length, eqb, leb}
use Rattle.laws.proofs.Prelude.{refl, true≢false, arith, eqb-true, ltb-false, leb-false, not-false}
use Rattle.laws.specs.Search.{count_below}
use Rattle.laws.proofs.Bools.{neither}
use Rattle.laws.proofs.Search.{none_below}
use Rattle.directory.specs.declared.Directory.{Directory}
use Rattle.directory.specs.declared.Status.{Status}
use Rattle.directory.specs.declared.Status.TheVariants.{Running, Awaiting}
use Rattle.directory.specs.Directory.{is_live}
use Rattle.area.specs.Prelude.{page_size, own_release, has_open_release}
use Rattle.diff.specs.Reading.{check_diff}
use Rattle.diff.specs.OnlyDiff.{Allowed}
use Rattle.protocol.specs.Release.{size_of}
use Rattle.protocol.specs.Checks.{Check, first_refusal, outside_limits, unfit_rack, awaits_recovery, fitting_checks}
use Rattle.protocol.specs.Checks.{no_live_card}
use Rattle.protocol.specs.Calls.{opening_checks, step_checks, fetch_checks, failure_checks, join_checks, desk_checks}
use Rattle.protocol.specs.Opening.{shares_with}
use Rattle.protocol.specs.Fetch.{in_motion}
use Rattle.protocol.proofs.checks.Outcome.{Passed}

-- ---- the checks that calls share

-- a rack within its limits whose memory and directory fit
pub record Fits (d : Directory) (m : List ℕ) : Type 0 where
  pub limits : outside_limits (length m) d.cards d.pages ≡ false
  pub fit : unfit_rack d m ≡ false

-- 1 and 2 pass
pub after_two : (d : Directory) (m : List ℕ) → Fits d m → (more : List Check) (value : ℕ)
    → first_refusal (fitting_checks d m ++ more) value ≡ first_refusal more value
unfolding first_refusal
after_two d m fits more value = rw (fits.limits, fits.fit)

pub record Runs (d : Directory) (m : List ℕ) : Type 0 where
  pub fits : Fits d m
  pub running : d.status ≡ Running

pub running_status : (status : Status) → awaits_recovery status ≡ false → status ≡ Running
unfolding awaits_recovery
running_status Running e = refl
running_status (Awaiting f) e = absurd (true≢false e)

pub live_card : (d : Directory) (c : ℕ) → no_live_card d c ≡ false → (c < d.cards) × (is_live d c ≡ true)
live_card d c none =
    let both = neither (leb d.cards c) (not (is_live d c)) none in
    (leb-false d.cards c both.0, not-false (is_live d c) both.1)

-- ---- each call

pub record OpeningPassed (d : Directory) (m : List ℕ) (c number : ℕ) (list : List ℕ) : Type 0 where
  pub runs : Runs d m
  pub below : c < d.cards
  pub live : is_live d c ≡ true
  pub idle : has_open_release d.live (size_of d) m c ≡ false
  pub next : number ≡ (own_release (size_of d) m c).number + 1
  pub allowed : Allowed d.pages list
  pub unshared : (x : ℕ) → x < d.cards → shares_with d.live d.pages m c list x ≡ false

pub record StepPassed (d : Directory) (m : List ℕ) (c : ℕ) : Type 0 where
  pub runs : Runs d m
  pub below : c < d.cards
  pub live : is_live d c ≡ true
  pub is_open : has_open_release d.live (size_of d) m c ≡ true

pub record FetchPassed (d : Directory) (m : List ℕ) (page room : ℕ) : Type 0 where
  pub runs : Runs d m
  pub page_below : page < d.pages
  pub still : (x : ℕ) → x < d.cards → in_motion d.live d.pages m page x ≡ false
  pub room_is : room ≡ page_size

pub record FailurePassed (d : Directory) (m : List ℕ) (c : ℕ) : Type 0 where
  pub runs : Runs d m
  pub below : c < d.cards
  pub live : is_live d c ≡ true
  pub many : 2 < count_below (is_live d) d.cards

pub record JoinPassed (d : Directory) (m : List ℕ) (x : ℕ) : Type 0 where
  pub runs : Runs d m
  pub below : x < d.cards
  pub dead : is_live d x ≡ false
  pub none_open : (c : ℕ) → c < d.cards → has_open_release d.live (size_of d) m c ≡ false

module _ (d : Directory) (m : List ℕ) where
  pub runs_by : outside_limits (length m) d.cards d.pages ≡ false → unfit_rack d m ≡ false
      → awaits_recovery d.status ≡ false
      → Runs d m
  runs_by limits fit idle =
      record { fits = record { limits = limits; fit = fit }; running = running_status d.status idle }

  pub opening_passed : (c number : ℕ) (list : List ℕ) → Passed (opening_checks d m c number list)
      → OpeningPassed d m c number list
  opening_passed c number list p =
      let card = live_card d c p.1.1.1.0 in
      let rest = p.1.1.1.1 in
      let stamp = (own_release (size_of d) m c).number in
      record {
        runs = runs_by p.0 p.1.0 p.1.1.0;
        below = card.0;
        live = card.1;
        idle = rest.0;
        next = omega (arith, leb-false number stamp rest.1.0, ltb-false (stamp + 1) number rest.1.1.0);
        allowed = omega (arith, ltb-false 0 (check_diff d.pages list).number rest.1.1.1.0);
        unshared = none_below (shares_with d.live d.pages m c list) d.cards rest.1.1.1.1.0;
      }

  pub step_passed : (c : ℕ) → Passed (step_checks d m c) → StepPassed d m c
  step_passed c p =
      let card = live_card d c p.1.1.1.0 in
      record {
        runs = runs_by p.0 p.1.0 p.1.1.0;
        below = card.0;
        live = card.1;
        is_open = not-false (has_open_release d.live (size_of d) m c) p.1.1.1.1.0;
      }

  pub fetch_passed : (page room : ℕ) → Passed (fetch_checks d m page room) → FetchPassed d m page room
  fetch_passed page room p =
      let rest = p.1.1.1 in
      record {
        runs = runs_by p.0 p.1.0 p.1.1.0;
        page_below = leb-false d.pages page rest.0;
        still = none_below (in_motion d.live d.pages m page) d.cards rest.1.0;
        room_is = eqb-true room page_size (not-false (eqb room page_size) rest.1.1.0);
      }

  pub failure_passed : (c : ℕ) → Passed (failure_checks d m c) → FailurePassed d m c
  failure_passed c p =
      let card = live_card d c p.1.1.1.0 in
      record {
        runs = runs_by p.0 p.1.0 p.1.1.0;
        below = card.0;
        live = card.1;
        many = leb-false (count_below (is_live d) d.cards) 2 p.1.1.1.1.0;
      }

  pub join_passed : (x : ℕ) → Passed (join_checks d m x) → JoinPassed d m x
  join_passed x p =
      let rest = p.1.1.1 in
      record {
        runs = runs_by p.0 p.1.0 p.1.1.0;
        below = leb-false d.cards x rest.0;
        dead = rest.1.0;
        none_open = none_below (has_open_release d.live (size_of d) m) d.cards rest.1.1.0;
      }

  pub desk_passed : (c : ℕ) → Passed (desk_checks d m c) → Runs d m × (c < d.cards)
  desk_passed c p =
      (runs_by p.0 p.1.0 p.1.1.0, leb-false d.cards c p.1.1.1.0)
