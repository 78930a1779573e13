-- A release run to its close: its steps fall one by one, and what other cards' releases stand in is left as it was.
use Rattle.std.specs.Prelude.{ℕ, zero, suc, ◌+◌, ◌<◌, ◌≤◌, ◌≡◌, ◌≢◌, List, true, false, length}
use Rattle.laws.proofs.Prelude.{refl, sym, ◌∙◌, arith}
use Rattle.laws.proofs.Bools.{by_cond}
use Rattle.directory.specs.declared.Directory.{Directory}
use Rattle.area.specs.Prelude.{AreaIn, has_open_release}
use Rattle.area.proofs.Prelude.{area_in, SameOwn, same_own_release, is_open_kept}
use Rattle.protocol.specs.Release.{size_of, step_memory}
use Rattle.protocol.specs.Recovery.{backup_before, step_times, run_to_close}
use Rattle.release.specs.Stepping.{CardIn, GoodRelease, StepsLeft, left_of}
use Rattle.release.proofs.Kept.{step_keeps_others}
use Rattle.release.proofs.Left.{same_own, same_then, good_kept, counted, all_left, left_after}
use Rattle.recovery.specs.Rack.{RackIn, SomeLive}
use Rattle.recovery.specs.Closing.{ReleasesIn, close_with}
use Rattle.recovery.proofs.Kept.{rack_card, next_below}
use Rattle.recovery.proofs.Marks.{marked_some}
use Rattle.recovery.proofs.Turns.{Turned, turn_none, turn_more}

module _ (d : Directory) (backup : ℕ) (c : ℕ) (few : c < 8) where
  pub times_keep_others : {k : ℕ} (n : ℕ) (m : List ℕ) → AreaIn (length m) (size_of d) c
      → (0 < n → StepsLeft d.pages m c k n) → (x : ℕ) → x ≢ c → SameOwn (size_of d) m (step_times d backup c n m) x
  unfolding step_times
  times_keep_others zero m area some x other = same_own (size_of d) m x
  times_keep_others (suc n) m area some x other =
      let left = some (omega arith) in
      let step = step_keeps_others d backup m c few area (omega arith) x other in
      let one : suc n ≡ n + 1 = omega arith in
      same_then step
      (times_keep_others n (step_memory d backup m c) (rw step.same_length area)
      (λ more. left_after d backup c few m area (rw one at left) more) x other)

-- ---- a release run to its close

module _ (d : Directory) (backup c : ℕ) (m : List ℕ) where
  pub close-opened : has_open_release d.live (size_of d) m c ≡ true
      → step_times d backup c (left_of d.pages m c) m ≡ close_with d backup c m
  unfolding close_with
  close-opened opened = rw opened

  pub close_shut : has_open_release d.live (size_of d) m c ≡ false → m ≡ close_with d backup c m
  unfolding close_with
  close_shut shut = rw shut

  close_keeps_others : c < 8 → AreaIn (length m) (size_of d) c
      → (has_open_release d.live (size_of d) m c ≡ true → GoodRelease d.pages m c)
      → (x : ℕ) → x ≢ c → SameOwn (size_of d) m (close_with d backup c m) x
  unfolding close_with
  close_keeps_others few area good x other =
      by_cond (λ (m' : List ℕ). SameOwn (size_of d) m m' x) (has_open_release d.live (size_of d) m c) _ _
      (λ opened.
      let all = counted d.pages m c (good opened) in
      times_keep_others d backup c few _ m area (λ _. all_left all (omega arith)) x other)
      (λ _. same_own (size_of d) m x)

-- the backup from before the failure is a card
pub backup_in : (d : Directory) (f c : ℕ) {words : ℕ} → RackIn d words → SomeLive d → f < 8
    → CardIn d.live words (size_of d) (backup_before d f c)
backup_in d f c rack some small = rack_card rack (next_below (marked_some d f some (omega arith)) c)

-- with it, a release is run to its close as recovery does
closes_before : (d : Directory) (f c : ℕ) (m : List ℕ) → close_with d (backup_before d f c) c m ≡ run_to_close d f c m
unfolding close_with run_to_close
closes_before d f c m = refl

-- ---- a loop of them

-- how far it is: what the releases of the cards from i on stand in is left as it was
pub record Closed (d : Directory) (f : ℕ) (before : List ℕ) (i : ℕ) (m : List ℕ) : Type 0 where
  pub turned : Turned (run_to_close d f) d.cards before i m
  pub later : (x : ℕ) → i ≤ x → SameOwn (size_of d) before m x

module _ {d : Directory} {f : ℕ} {before : List ℕ} where
  pub closed_none : Closed d f before 0 before
  closed_none = record { turned = turn_none; later = λ x _. same_own (size_of d) before x }

  module _ (releases : ReleasesIn d before) {i : ℕ} {m : List ℕ} (far : Closed d f before i m)
      (below : i < d.cards) where
    pub closed_good : has_open_release d.live (size_of d) m i ≡ true → GoodRelease d.pages m i
    closed_good opened =
        let same = far.later i (omega arith) in
        let kept = is_open_kept (size_of d) before m i (same_own_release (size_of d) before m i same) d.live in
        good_kept d.pages before m i same (releases.good i below (sym kept ∙ opened))

    pub closed_more : {next : List ℕ} → RackIn d (length before) → length next ≡ length m
        → next ≡ close_with d (backup_before d f i) i m → Closed d f before (i + 1) next
    closed_more rack same made =
        let area = area_in (size_of d) below (far.turned.same ∙ rack.whole) in
        record {
          turned = turn_more far.turned below same (made ∙ closes_before d f i m);
          later = λ x above. rw made
              (same_then (far.later x (omega arith))
              (close_keeps_others d (backup_before d f i) i m (omega arith) area closed_good x (λ e. omega arith)));
        }
