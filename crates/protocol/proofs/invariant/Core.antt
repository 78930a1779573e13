-- The invariant between memory, directory and book that a step keeps, with the rack running or awaiting recovery.
-- `backup` is each card's backup, from before the failure where one is awaited. T and C say when the claims on the
-- tentative and the committed words are made. `old` is what the records of dead cards say.
use Rattle.std.specs.Prelude.{ℕ, suc, ◌+◌, ◌*◌, ◌≤◌, ◌<◌, ◌≡◌, ◌≢◌, List, true, false, length}
use Rattle.laws.proofs.Prelude.{refl, sym, ap, ◌∙◌, true≢false, arith, ℕ_discrete}
use Rattle.directory.specs.declared.Directory.{Directory}
use Rattle.directory.specs.Directory.{is_live}
use Rattle.area.specs.Prelude.{AreaIn, load, area_size, open_flag, desk_size, records_start, Release, own_release, open_list}
use Rattle.area.proofs.Prelude.{SameOwn, SameRelease, open_kept, list_kept, steps_kept, same_own_release, In}
use Rattle.area.proofs.Prelude.{record_region}
use Rattle.diff.specs.Reading.{read_well, read_diff}
use Rattle.diff.specs.Prices.{applied_at}
use Rattle.protocol.specs.Release.{size_of, step_memory, counts_at, steps_in}
use Rattle.protocol.specs.Book.{Opened, none, opened, list_prices, Book, update, prices_in}
use Rattle.protocol.proofs.release.Shape.{Shape, shape_kept, area_of_live}
use Rattle.protocol.proofs.release.WordAfter.{written}
use Rattle.protocol.proofs.release.Step.{StandsIn, step_write, load_step, steps-step, step_keeps, step_keeps_own}
use Rattle.protocol.proofs.release.Step.{step_keeps_other, step_keeps_record}
use Rattle.protocol.proofs.book.Changes.{EightWords, update_each}
use Rattle.protocol.proofs.claims.Claim.{Disjoint, Claim}
use Rattle.protocol.proofs.claims.Halves.{tentatives, committeds}
use Rattle.protocol.proofs.claims.Step.{PricesAfter, step_tentatives, step_committeds}
use Rattle.protocol.proofs.records.Recorded.{Numbers, Own, Recorded, recorded_kept, LastAfter, step_numbers}
use Rattle.protocol.proofs.records.Recorded.{step_recorded}

-- ---- what memory has of a card's release

-- a release that stands open in memory as the book has it
pub record OpenStands (pages : ℕ) (m : List ℕ) (c : ℕ) (r : Release) (list : List ℕ) (s : ℕ) : Type 0 where
  pub flagged : load (area_size pages) m c open_flag ≡ 1
  pub stands : StandsIn pages m c r (list_prices list) s
  pub words : ℕ
  pub reads : read_diff pages (open_list (area_size pages) m c) ≡ read_well (length (list_prices list)) words

abbrev pub Standing : ℕ → List ℕ → ℕ → Opened → Type 0
Standing pages m c none = load (area_size pages) m c open_flag ≡ 0
Standing pages m c (opened r list s) = OpenStands pages m c r list s

-- the steps that a release may have made
abbrev pub Under : Opened → Type 0
Under none = Unit {0}
Under (opened r list s) = s < steps_in (length (list_prices list))

pub record Core (d : Directory) (backup : ℕ → ℕ) (old : ℕ → ℕ → ℕ) (T C : Type 0) (m : List ℕ) (b : Book) : Type 0
  where
    pub shape : Shape d m
    pub standing : (c : ℕ) → is_live d c ≡ true → Standing d.pages m c (b.release c)
    pub gone : (c : ℕ) → is_live d c ≡ false → b.release c ≡ none
    pub under : (c : ℕ) → Under (b.release c)
    pub eights : (c : ℕ) → EightWords (b.release c)
    pub last_eight : (c : ℕ) → length (b.last c).desk ≡ desk_size
    pub disjoint : Disjoint b.release
    pub numbers : (c : ℕ) → Numbers (b.release c) (b.last c)
    pub owns : (c : ℕ) → is_live d c ≡ true → Own (b.release c) (own_release (size_of d) m c) (b.last c)
    pub tentative : T → Claim d (tentatives d backup) b.release b.price m
    pub committed : C → Claim d (committeds d backup) b.release b.price m
    -- the record of each live card on its backup, and those of dead cards on every live card
    pub recorded : (c : ℕ) → is_live d c ≡ true → is_live d (backup c) ≡ true
        → Recorded c (b.release c) (b.last c) (load (size_of d) m (backup c))
    pub dead : (g h o : ℕ) → is_live d g ≡ false → g < d.cards → is_live d h ≡ true → In (record_region g) o
        → load (size_of d) m h o ≡ old h o

-- ---- a step before the close

-- memory keeps what it has of a release whose words are kept
pub standing_kept : (pages : ℕ) (m m' : List ℕ) (c : ℕ) (R : Opened) → SameOwn (area_size pages) m m' c
    → Standing pages m c R
    → Standing pages m' c R
standing_kept pages m m' c none same standing = same.low open_flag (omega arith) ∙ standing
standing_kept pages m m' c (opened r list s) same standing =
    let kept = same_own_release (area_size pages) m m' c same in
    record {
      flagged = same.low open_flag (omega arith) ∙ standing.flagged;
      stands = record {
        release = open_kept (area_size pages) m m' c kept ∙ standing.stands.release;
        prices = rw (list_kept (area_size pages) m m' c kept) standing.stands.prices;
        steps = steps_kept (area_size pages) m m' c same ∙ standing.stands.steps;
      };
      words = standing.words;
      reads = rw (list_kept (area_size pages) m m' c kept) standing.reads;
    }

-- the book after a step that does not close the release
abbrev pub stepped_book : Book → ℕ → Opened → (ℕ → ℕ) → (ℕ → Release) → Book
stepped_book b c R price last =
    record { price = price; last = last; release = update b.release c R; failed = b.failed }

module _ (d : Directory) (backup : ℕ → ℕ) (old : ℕ → ℕ → ℕ) (T C : Type 0) (m : List ℕ) (b : Book)
    (core : Core d backup old T C m b) (c : ℕ) (live : is_live d c ≡ true) (r : Release) (list : List ℕ) (s : ℕ)
    (is : b.release c ≡ opened r list s) where
  few : c < 8
  few = omega (arith, core.shape.below c live, core.shape.few_cards)

  area : AreaIn (length m) (size_of d) c
  area = area_of_live core.shape c live

  standing : OpenStands d.pages m c r list s
  standing = rw is at (core.standing c live)

  eight : length r.desk ≡ desk_size
  eight = rw is at (core.eights c)

  module _ (before : s < 4 * length (list_prices list) + 10) (price : ℕ → ℕ) (last : ℕ → Release)
      (prices : PricesAfter (length (list_prices list)) s b.price price
      (λ label. applied_at (list_prices list) label (b.price label)))
      (lasts : LastAfter (length (list_prices list)) s r (b.last c) (last c))
      (others : (x : ℕ) → x ≢ c → last x ≡ b.last x) where
    abbrev m' : List ℕ
    m' = step_memory d (backup c) m c

    abbrev R' : Opened
    R' = opened r list (suc s)

    -- a word of a live card beside the own words
    wrote : (h o : ℕ) → is_live d h ≡ true → o < size_of d → records_start ≤ o
        → load (size_of d) m' h o ≡ written (step_write d (backup c) c r (list_prices list) s) h o (load (size_of d) m h o)
    wrote h o up inside above =
        load_step d (backup c) m c area standing.stands few before h o up (area_of_live core.shape h up) inside
        (λ _ e. omega arith)

    kept : SameRelease (size_of d) m m' c
    kept = step_keeps d (backup c) m c area standing.stands few before

    kept_own : (x : ℕ) → own_release (size_of d) m' x ≡ own_release (size_of d) m x
    kept_own = step_keeps_own d (backup c) m c area standing.stands few before

    kept_other : (x : ℕ) → x ≢ c → SameOwn (size_of d) m m' x
    kept_other = step_keeps_other d (backup c) m c area standing.stands few before

    kept_record : (x h o : ℕ) → x < 8 → x ≢ c → In (record_region x) o
        → load (size_of d) m' h o ≡ load (size_of d) m h o
    kept_record = step_keeps_record d (backup c) m c area standing.stands few before

    own_stands : Standing d.pages m' c R'
    own_stands =
        record {
          flagged = kept.low open_flag (omega arith) (omega arith) ∙ standing.flagged;
          stands = record {
            release = open_kept (size_of d) m m' c kept ∙ standing.stands.release;
            prices = rw (list_kept (size_of d) m m' c kept) standing.stands.prices;
            steps = steps-step d (backup c) m c area standing.stands few before;
          };
          words = standing.words;
          reads = rw (list_kept (size_of d) m m' c kept) standing.reads;
        }

    same_prices : (x : ℕ) → prices_in (update b.release c R' x) ≡ prices_in (b.release x)
    same_prices = update_each b.release c R' (λ x R. prices_in R ≡ prices_in (b.release x)) (rw is) (λ x other. refl)

    last_is_eight : (x : ℕ) → length (last x).desk ≡ desk_size
    last_is_eight x =
        elim (ℕ_discrete x c) [
          | yes same ↦ elim (ℕ_discrete (suc s) (counts_at (length (list_prices list)))) [
            | yes counts ↦ rw (same, lasts.counts counts) eight
            | no plain ↦ rw (same, lasts.plain plain) (core.last_eight c)
          ]
          | no other ↦ rw (others x other) (core.last_eight x)
        ]

    pub write_core : Core d backup old T C m' (stepped_book b c R' price last)
    write_core =
        record {
          shape = shape_kept core.shape m' kept.same_length;
          standing = update_each b.release c R' (λ x R. is_live d x ≡ true → Standing d.pages m' x R)
              (λ _. own_stands)
              (λ x other up. standing_kept d.pages m m' x (b.release x) (kept_other x other)
              (core.standing x up));
          gone = update_each b.release c R' (λ x R. is_live d x ≡ false → R ≡ none)
              (λ dead. absurd (true≢false (sym live ∙ dead))) (λ x other. core.gone x);
          under = update_each b.release c R' (λ x R. Under R) (omega arith) (λ x other. core.under x);
          eights = update_each b.release c R' (λ x R. EightWords R) eight (λ x other. core.eights x);
          last_eight = last_is_eight;
          disjoint = λ x y label other named.
              rw (same_prices y) (core.disjoint x y label other (rw (same_prices x) at named));
          numbers = update_each b.release c R' (λ x R. Numbers R (last x))
              (step_numbers r list s (b.last c) (last c) lasts (rw is at (core.numbers c)))
              (λ x other. rw (others x other) (core.numbers x));
          owns = update_each b.release c R' (λ x R. is_live d x ≡ true → Own R (own_release (size_of d) m' x) (last x))
              (λ _. rw (kept_own c) (rw is at (core.owns c live)))
              (λ x other up. rw (kept_own x, others x other) (core.owns x up));
          tentative = λ t.
              step_tentatives d backup b.release b.price price m m' c few r list s is eight before prices
              (λ h p w word. wrote h _ word.live (omega (arith, word.page, word.word)) (omega arith))
              (core.tentative t);
          committed = λ t.
              step_committeds d backup b.release b.price price m m' c few r list s is eight before prices
              (λ h p w word. wrote h _ word.live (omega (arith, word.page, word.word)) (omega arith))
              (core.committed t);
          recorded = update_each b.release c R'
              (λ x R. is_live d x ≡ true → is_live d (backup x) ≡ true
              → Recorded x R (last x) (load (size_of d) m' (backup x)))
              (λ _ up. step_recorded r list s (b.last c) (last c) lasts (rw is at (core.numbers c)) d (backup c) c few
              eight before
              (load (size_of d) m (backup c)) (load (size_of d) m' (backup c))
              (λ o in-record. wrote (backup c) o up (omega (arith, few)) (omega arith))
              (rw is at (core.recorded c live up)))
              (λ x other lives up. rw (others x other)
              (recorded_kept x (b.release x) (b.last x) (load (size_of d) m (backup x)) (load (size_of d) m' (backup x))
              (λ o in-record. kept_record x (backup x) o (small x lives) other in-record)
              (core.recorded x lives up)));
          dead = λ g h o gone few' up in-record.
              kept_record g h o (omega (arith, core.shape.few_cards))
              (λ e. true≢false (sym live ∙ ap (is_live d) (sym e) ∙ gone)) in-record
              ∙ core.dead g h o gone few' up in-record;
        }
      where
        small : (x : ℕ) → is_live d x ≡ true → x < 8
        small x up = omega (arith, core.shape.below x up, core.shape.few_cards)
