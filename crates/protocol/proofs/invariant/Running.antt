-- What the memory of a running rack says is what the book says; a change that keeps it so.
use Rattle.std.specs.Prelude.{ℕ, ◌≡◌, List, Bool, true, false}
use Rattle.laws.proofs.Prelude.{refl, sym, ◌∙◌, subst, true≢false}
use Rattle.directory.specs.declared.Directory.{Directory}
use Rattle.directory.specs.Directory.{is_live, backup_of}
use Rattle.area.specs.Prelude.{load, Release, own_release, has_open_release}
use Rattle.protocol.specs.Release.{size_of}
use Rattle.protocol.specs.Book.{Opened, none, opened, Book}
use Rattle.protocol.proofs.records.Recorded.{Own, recorded_kept}
use Rattle.protocol.proofs.invariant.Core.{Core, OpenStands, Standing}
use Rattle.protocol.proofs.invariant.Rack.{RunningRack}
use Rattle.protocol.proofs.invariant.Found.{core_now}

abbrev IsOpened : Opened → Type 0
IsOpened none = ⊥
IsOpened (opened r list s) = Unit {0}

module _ (d : Directory) (m : List ℕ) (b : Book) (rack : RunningRack d m b) where
  -- a release that the book has open
  pub stands_open : (c : ℕ) (r : Release) (list : List ℕ) (s : ℕ) → b.release c ≡ opened r list s
      → (is_live d c ≡ true) × OpenStands d.pages m c r list s
  stands_open c r list s is = go (is_live d c) refl
    where
      go : (up : Bool) → is_live d c ≡ up → (is_live d c ≡ true) × OpenStands d.pages m c r list s
      go true live = (live, rw is at (rack.core.standing c live))
      go false dead = absurd (subst IsOpened (sym is ∙ rack.core.gone c dead) tt)

  pub is_open : (c : ℕ) (r : Release) (list : List ℕ) (s : ℕ) → b.release c ≡ opened r list s
      → has_open_release d.live (size_of d) m c ≡ true
  unfolding has_open_release
  is_open c r list s is = let stands = stands_open c r list s is in rw (stands.0, stands.1.flagged)

  pub none_if_idle : (c : ℕ) → has_open_release d.live (size_of d) m c ≡ false → b.release c ≡ none
  none_if_idle c idle = go (b.release c) refl
    where
      go : (R : Opened) → b.release c ≡ R → b.release c ≡ none
      go none is = is
      go (opened r list s) is = absurd (true≢false (sym (is_open c r list s is) ∙ idle))

  pub idle_word : (c : ℕ) → is_live d c ≡ true → b.release c ≡ none → has_open_release d.live (size_of d) m c ≡ false
  unfolding has_open_release
  idle_word c live is =
      let closed : Standing d.pages m c none = rw is at (rack.core.standing c live) in
      rw (live, closed)

  -- the own stamp and desk of a card with none open
  pub own_is_last : (c : ℕ) → is_live d c ≡ true → b.release c ≡ none → own_release (size_of d) m c ≡ b.last c
  own_is_last c live idle = let own : Own (b.release c) _ _ = rack.core.owns c live in rw idle at own

  -- a change that leaves homes, and the records of dead cards, as they are
  pub runs_on : (m' : List ℕ) (b' : Book) → Core d (backup_of d) (load (size_of d) m) (Unit {0}) (Unit {0}) m' b'
      → ((g : ℕ) → is_live d g ≡ false → b'.last g ≡ b.last g) → RunningRack d m' b'
  runs_on m' b' core lasts =
      record {
        running = rack.running;
        arrays = rack.arrays;
        core = core_now core;
        records = λ g h dead real live.
            rw (lasts g dead)
            (recorded_kept g none _ _ _ (λ o in-record. core.dead g h o dead real live in-record)
            (rack.records g h dead real live));
        two = rack.two;
        primary_live = rack.primary_live;
        secondary_live = rack.secondary_live;
        homes_differ = rack.homes_differ;
      }
