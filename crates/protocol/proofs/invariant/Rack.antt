-- The invariant of demand 3: a rack that runs, and one that awaits the recovery of a card, beside the book.
use Rattle.std.specs.Prelude.{ℕ, ◌+◌, ◌≤◌, ◌<◌, ◌≡◌, ◌≢◌, ◌⊎◌, List, Bool, true, false, length, get_or, set}
use Rattle.laws.proofs.Prelude.{sym, ◌∙◌, ℕ_discrete}
use lib.Seq.{set-set, set-get_or}
use Rattle.directory.specs.declared.Directory.{Directory}
use Rattle.directory.specs.declared.Status.TheVariants.{Running, Awaiting}
use Rattle.directory.specs.Directory.{is_live, primary_of, secondary_of, next_live_of, backup_of}
use Rattle.directory.specs.NewHome.{Another}
use Rattle.directory.proofs.NewHome.{next_names_live}
use Rattle.area.specs.Prelude.{load, record_stamp, record_done, record_desk, load_number, desk_size}
use Rattle.protocol.specs.Release.{size_of}
use Rattle.protocol.specs.Recovery.{backup_before}
use Rattle.protocol.specs.Book.{none, Book}
use Rattle.protocol.proofs.records.Recorded.{Recorded}
use Rattle.protocol.proofs.invariant.Core.{Core}

-- ---- two live cards

pub record TwoLive (d : Directory) : Type 0 where
  pub one : ℕ
  pub two : ℕ
  pub differ : one ≢ two
  pub first : is_live d one ≡ true
  pub second : is_live d two ≡ true

-- one of them is another than c
pub another : (d : Directory) → TwoLive d → ((c : ℕ) → is_live d c ≡ true → c < d.cards) → (c : ℕ) → Another d c
another d pair below c =
    elim (ℕ_discrete pair.one c) [
      | yes same ↦
          record {
            card = pair.two;
            below = below pair.two pair.second;
            live = pair.second;
            differs = λ e. pair.differ (same ∙ sym e);
          }
      | no elsewhere ↦
          record {
            card = pair.one;
            below = below pair.one pair.first;
            live = pair.first;
            differs = elsewhere;
          }
    ]

-- ---- a directory of its arrays' lengths, within its limits

pub record Arrays (d : Directory) : Type 0 where
  pub least : 3 ≤ d.cards
  pub some : 1 ≤ d.pages
  pub marks : length d.live ≡ 8
  pub primaries : length d.primary ≡ 64
  pub secondaries : length d.secondary ≡ 64

-- ---- a rack that runs

pub record RunningRack (d : Directory) (m : List ℕ) (b : Book) : Type 0 where
  pub running : d.status ≡ Running
  pub arrays : Arrays d
  pub core : Core d (backup_of d) (load (size_of d) m) (Unit {0}) (Unit {0}) m b
  -- the record of each dead card is settled on every live card
  pub records : (g h : ℕ) → is_live d g ≡ false → g < d.cards → is_live d h ≡ true
      → Recorded g none (b.last g) (load (size_of d) m h)
  pub two : TwoLive d
  pub primary_live : (p : ℕ) → p < d.pages → is_live d (primary_of d p) ≡ true
  pub secondary_live : (p : ℕ) → p < d.pages → is_live d (secondary_of d p) ≡ true
  pub homes_differ : (p : ℕ) → p < d.pages → primary_of d p ≢ secondary_of d p

-- ---- a rack that awaits the recovery of card f

-- stamp and done mark of f's record, at the next live after f
abbrev pub stamp_of : Directory → ℕ → List ℕ → ℕ
stamp_of d f m = load_number (size_of d) m (next_live_of d f) (record_stamp f)

abbrev pub done_of : Directory → ℕ → List ℕ → ℕ
done_of d f m = load_number (size_of d) m (next_live_of d f) (record_done f)

pub record AwaitingRack (d : Directory) (f : ℕ) (m : List ℕ) (b : Book) : Type 0 where
  pub awaiting : d.status ≡ Awaiting f
  pub arrays : Arrays d
  pub lost : is_live d f ≡ false
  pub real : f < d.cards
  pub failed : b.failed ≡ f
  -- the tentative words are right if the second phase was under way, else the committed ones
  pub core : Core d (backup_before d f) (load (size_of d) m) (stamp_of d f m ≢ done_of d f m)
      (stamp_of d f m ≡ done_of d f m) m b
  pub records : (g h : ℕ) → is_live d g ≡ false → g ≢ f → g < d.cards → is_live d h ≡ true
      → Recorded g none (b.last g) (load (size_of d) m h)
  pub stamped : stamp_of d f m ≡ (b.last f).number
  pub desked : (j : ℕ) → j < desk_size
      → load (size_of d) m (next_live_of d f) (record_desk f (b.last f).number + j) ≡ get_or (b.last f).desk j 0
  pub two : TwoLive d
  pub primary_live : (p : ℕ) → p < d.pages → (is_live d (primary_of d p) ≡ true) ⊎ (primary_of d p ≡ f)
  pub secondary_live : (p : ℕ) → p < d.pages → (is_live d (secondary_of d p) ≡ true) ⊎ (secondary_of d p ≡ f)
  pub homes_differ : (p : ℕ) → p < d.pages → primary_of d p ≢ secondary_of d p

-- ---- the next live card

module _ (d : Directory) (two : TwoLive d) (below : (c : ℕ) → is_live d c ≡ true → c < d.cards) (c : ℕ) where
  pub next_is_live : is_live d (next_live_of d c) ≡ true
  next_is_live = next_names_live.live d c (another d two below c)

  pub next_is_other : next_live_of d c ≢ c
  next_is_other = next_names_live.differs d c (another d two below c)

-- a mark that is made and unmade
pub unmarked : (marks : List Bool) (c : ℕ) (mark : Bool) → get_or marks c false ≡ mark → (other : Bool)
    → set (set marks c other) c mark ≡ marks
unmarked marks c mark is other = set-set marks c other mark ∙ (rw is at (set-get_or marks c false))

-- ---- a rack of either kind

-- a rack that runs or awaits a recovery
abbrev pub Rack : Directory → List ℕ → Book → Type 0
Rack d m b = RunningRack d m b ⊎ ((f : ℕ) × AwaitingRack d f m b)

-- no card that is live is offline
abbrev pub LiveOnline : Directory → (ℕ → Bool) → Type 0
LiveOnline d offline = (c : ℕ) → is_live d c ≡ true → offline c ≡ false
