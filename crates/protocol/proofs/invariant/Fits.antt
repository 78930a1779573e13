-- A rack that agrees with its book passes checks 1 and 2.
use Rattle.std.specs.Prelude.{ℕ, zero, suc, ◌+◌, ◌*◌, ◌≤◌, ◌<◌, ◌≡◌, ◌≢◌, ◌⊎◌, List, Bool, true, false, cond, not, ◌&&◌}
use Rattle.std.specs.Prelude.{◌||◌, length, ltb, eqb}
use Rattle.laws.proofs.Prelude.{refl, sym, inl, inr, arith, ℕ_discrete, dec_lt, eq-eqb, ne_eqb, le-ltb, lt-leb}
use Rattle.laws.specs.Search.{any_below, count_below}
use Rattle.laws.proofs.Search.{none_pass}
use Rattle.directory.specs.declared.Directory.{Directory}
use Rattle.directory.specs.declared.Status.{Status}
use Rattle.directory.specs.Directory.{live_at, is_live, primary_of, secondary_of, backup_of, awaits_card}
use Rattle.area.specs.Prelude.{load, area_size, open_flag, open_list, steps_of}
use Rattle.diff.specs.Reading.{read_diff}
use Rattle.protocol.specs.Checks.{outside_limits, few_live, bad_home, bad_page, bad_status, bad_release, bad_card}
use Rattle.protocol.specs.Checks.{unfit_rack}
use Rattle.protocol.specs.Release.{size_of}
use Rattle.protocol.specs.Book.{Opened, none, opened, list_prices, Book}
use Rattle.protocol.specs.Recovery.{backup_before}
use Rattle.protocol.proofs.invariant.Core.{Core, Standing, Under}
use Rattle.protocol.proofs.invariant.Rack.{RunningRack, AwaitingRack, TwoLive, Arrays, Rack}
use Rattle.protocol.proofs.checks.ByCall.{Fits}

-- ---- numbers below a bound

-- one that passes is counted
count_up : (test : ℕ → Bool) (x n : ℕ) → x < n → test x ≡ true → suc (count_below test x) ≤ count_below test n
unfolding count_below
count_up test x zero below pass = absurd (omega arith)
count_up test x (suc n) below pass =
    elim (ℕ_discrete x n) [
      | yes same ↦ here same
      | no other ↦ omega (arith, count_up test x n (omega arith) pass)
    ]
  where
    here : x ≡ n → suc (count_below test x) ≤ count_below test n + cond (test n) 1 0
    here same =
        let passes : test n ≡ true = rw (← same) pass in
        rw (same, passes) (omega arith)

count_two : (test : ℕ → Bool) (x y n : ℕ) → x < y → y < n → test x ≡ true → test y ≡ true → 2 ≤ count_below test n
count_two test x y n apart below first second =
    omega (arith, count_up test x y apart first, count_up test y n below second)

two_counted : (d : Directory) → TwoLive d → ((c : ℕ) → is_live d c ≡ true → c < d.cards)
    → 2 ≤ count_below (is_live d) d.cards
two_counted d two below =
    elim (dec_lt two.one two.two) [
      | yes up ↦ count_two (is_live d) two.one two.two d.cards up (below two.two two.second) two.first
          two.second
      | no down ↦
          count_two (is_live d) two.two two.one d.cards (omega (arith, two.differ))
          (below two.one two.first)
          two.second two.first
    ]

-- ---- homes

module _ (cards : ℕ) (marks : List Bool) (status : Status) (h : ℕ) (real : h < cards) where
  good_live : live_at marks h ≡ true → bad_home cards marks status h ≡ false
  unfolding bad_home
  good_live live = rw (lt-leb cards h real, live)

  good_awaited : awaits_card status h ≡ true → bad_home cards marks status h ≡ false
  unfolding bad_home
  good_awaited awaited = rw (lt-leb cards h real, awaited) (neither_way (not (live_at marks h)))
    where
      neither_way : (dead : Bool) → dead && false ≡ false
      neither_way true = refl
      neither_way false = refl

-- ---- the release of a card

good_card : (marks : List Bool) (pages : ℕ) (m : List ℕ) (c : ℕ) (R : Opened)
    → (live_at marks c ≡ true → Standing pages m c R) → Under R → bad_card marks pages m c ≡ false
unfolding bad_card bad_release
good_card marks pages m c R standing under = go (live_at marks c) refl R standing under
  where
    go : (up : Bool) → live_at marks c ≡ up → (R : Opened) → (live_at marks c ≡ true → Standing pages m c R) → Under R
        → up
        && (ltb 1 (load (area_size pages) m c open_flag)
        || (eqb (load (area_size pages) m c open_flag) 1
        && bad_release (read_diff pages (open_list (area_size pages) m c)) (steps_of (area_size pages) m c)))
        ≡ false
    go false dead R standing under = refl
    go true live none standing under = rw (standing live)
    go true live (opened r list s) standing under =
        let stands = standing live in
        rw (stands.flagged, stands.reads, stands.stands.steps)
        (le-ltb (4 * length (list_prices list) + 10) s (omega arith))

-- ---- the whole

module _ (d : Directory) (backup : ℕ → ℕ) (old : ℕ → ℕ → ℕ) (T C : Type 0) (m : List ℕ) (b : Book)
    (core : Core d backup old T C m b) (arrays : Arrays d) (two : TwoLive d)
    (differ : (p : ℕ) → p < d.pages → primary_of d p ≢ secondary_of d p)
    (first : (p : ℕ) → p < d.pages → bad_home d.cards d.live d.status (primary_of d p) ≡ false)
    (second : (p : ℕ) → p < d.pages → bad_home d.cards d.live d.status (secondary_of d p) ≡ false)
    (status : bad_status d.cards d.live d.status ≡ false) where
  pages_good : any_below (bad_page d) d.pages ≡ false
  unfolding bad_page
  pages_good =
      none_pass (bad_page d) d.pages
      (λ p page. rw (ne_eqb (primary_of d p) (secondary_of d p) (differ p page), first p page, second p page))

  cards_good : any_below (bad_card d.live d.pages m) d.cards ≡ false
  cards_good =
      none_pass (bad_card d.live d.pages m) d.cards (λ c real.
      good_card d.live d.pages m c (b.release c) (core.standing c) (core.under c))

  fits : Fits d m
  unfolding outside_limits unfit_rack few_live
  fits =
      record {
        limits =
            rw (
              le-ltb d.cards 3 arrays.least,
              le-ltb 8 d.cards core.shape.few_cards,
              le-ltb d.pages 1 arrays.some,
              le-ltb 64 d.pages core.shape.few_pages,
              eq-eqb (length m) (d.cards * size_of d) core.shape.whole,
            );
        fit =
            rw (
              le-ltb (count_below (is_live d) d.cards) 2 (two_counted d two core.shape.below),
              pages_good,
              status,
              cards_good,
            );
      }

-- ---- a rack that runs, or awaits a recovery

module _ (d : Directory) (m : List ℕ) (b : Book) where
  running_fits : RunningRack d m b → Fits d m
  unfolding bad_status
  running_fits rack =
      fits d (backup_of d) _ _ _ m b rack.core rack.arrays rack.two rack.homes_differ
      (λ p page. home (primary_of d p) (rack.primary_live p page))
      (λ p page. home (secondary_of d p) (rack.secondary_live p page))
      (rw rack.running)
    where
      home : (h : ℕ) → is_live d h ≡ true → bad_home d.cards d.live d.status h ≡ false
      home h live = good_live d.cards d.live d.status h (rack.core.shape.below h live) live

  awaiting_fits : (f : ℕ) → AwaitingRack d f m b → Fits d m
  unfolding bad_status
  awaiting_fits f rack =
      fits d (backup_before d f) _ _ _ m b rack.core rack.arrays rack.two rack.homes_differ
      (λ p page. home (primary_of d p) (rack.primary_live p page))
      (λ p page. home (secondary_of d p) (rack.secondary_live p page))
      (rw (rack.awaiting, lt-leb d.cards f rack.real, rack.lost))
    where
      home : (h : ℕ) → (is_live d h ≡ true) ⊎ (h ≡ f) → bad_home d.cards d.live d.status h ≡ false
      home h (inl live) = good_live d.cards d.live d.status h (rack.core.shape.below h live) live
      home h (inr same) =
          good_awaited d.cards d.live d.status h (rw same rack.real)
          (rw rack.awaiting (eq-eqb f h (sym same)))

  pub rack_fits : Rack d m b → Fits d m
  rack_fits (inl rack) = running_fits rack
  rack_fits (inr rack) = awaiting_fits rack.0 rack.1
