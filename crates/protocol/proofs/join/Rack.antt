-- A join leaves a rack that runs, beside the same book.
use Rattle.std.specs.Prelude.{ℕ, ◌≤◌, ◌<◌, ◌≡◌, ◌≢◌, List, true, false}
use Rattle.laws.proofs.Prelude.{refl, sym, ◌∙◌, inl, inr, true≢false, arith, ℕ_discrete}
use lib.ListN.{length-set}
use Rattle.directory.specs.declared.Directory.{Directory}
use Rattle.directory.specs.Directory.{is_live, primary_of, secondary_of, next_live_of, backup_of, marked_live}
use Rattle.directory.proofs.Live.{next_live_kept}
use Rattle.directory.proofs.Changes.{live_of_marked_live, live_of_other}
use Rattle.area.specs.Prelude.{load, own_release, page_size}
use Rattle.area.proofs.Prelude.{SameOwn, own_words_kept}
use Rattle.protocol.specs.Release.{size_of}
use Rattle.protocol.specs.Join.{joined_memory}
use Rattle.protocol.specs.Book.{Opened, none, Book}
use Rattle.protocol.proofs.release.Shape.{Shape}
use Rattle.protocol.proofs.release.WordAfter.{HomeOf}
use Rattle.protocol.proofs.claims.Claim.{Half, Claim, claim_idle, idle_words}
use Rattle.protocol.proofs.claims.Halves.{tentatives, committeds}
use Rattle.protocol.proofs.records.Recorded.{Recorded, Own, recorded_kept}
use Rattle.protocol.proofs.invariant.Core.{Core, Standing, standing_kept}
use Rattle.protocol.proofs.invariant.Rack.{RunningRack, TwoLive, next_is_live, next_is_other, unmarked}
use Rattle.protocol.proofs.join.Memory.{Joined, joined}

module _ (d : Directory) (x : ℕ) (m : List ℕ) (b : Book) (rack : RunningRack d m b) (dead : is_live d x ≡ false)
    (real : x < d.cards) (idle : (c : ℕ) → b.release c ≡ none) where
  abbrev d' : Directory
  d' = marked_live d x

  abbrev m' : List ℕ
  m' = joined_memory d x m

  after : Joined d x b m m'
  after = joined d x m b rack dead real idle

  shape : Shape d m
  shape = rack.core.shape

  few : x < 8
  few = omega (arith, real, shape.few_cards)

  nexts : (g : ℕ) → is_live d (next_live_of d g) ≡ true
  nexts g = next_is_live d rack.two shape.below g

  small : (c : ℕ) → is_live d c ≡ true → c < 8
  small c live = omega (arith, shape.below c live, shape.few_cards)

  not_x : (h : ℕ) → is_live d h ≡ true → h ≢ x
  not_x h live same = true≢false (sym live ∙ rw same dead)

  -- ---- the directory with x live

  x_live : is_live d' x ≡ true
  x_live = live_of_marked_live d x (omega (arith, rack.arrays.marks, few))

  live_before : (c : ℕ) → c ≢ x → is_live d' c ≡ true → is_live d c ≡ true
  live_before c other now = sym (live_of_other d x true c other) ∙ now

  live_still : (c : ℕ) → is_live d c ≡ true → is_live d' c ≡ true
  live_still c was = live_of_other d x true c (not_x c was) ∙ was

  dead_before : (c : ℕ) → is_live d' c ≡ false → (is_live d c ≡ false) × (c ≢ x)
  dead_before c now =
      elim (ℕ_discrete c x) [
        | yes same ↦ absurd (true≢false (sym x_live ∙ (rw same at now)))
        | no other ↦ (sym (live_of_other d x true c other) ∙ now, other)
      ]

  -- a card that does not have x as its backup has the one it had
  same_backup : (c : ℕ) → backup_of d' c ≢ x → backup_of d c ≡ backup_of d' c
  same_backup c other =
      let marks = unmarked d.live x false dead true in
      rw marks at (next_live_kept d'.live d.cards c x other)

  -- homes are live cards of before
  home_live : (h p : ℕ) → p < d.pages → HomeOf d' h p → is_live d h ≡ true
  home_live h p page (inl home) = rw home (rack.secondary_live p page)
  home_live h p page (inr home) = rw home (rack.primary_live p page)

  -- with nothing open the claims go over to the words that stay
  page_claim : (H : Half d) (H' : Half d') → H'.half ≡ H.half → H.half ≤ page_size
      → Claim d H b.release b.price m
      → Claim d' H' b.release b.price m'
  page_claim H H' same less claim =
      claim_idle d' H' b.release b.price m' idle
      (λ h p w word.
      let live = home_live h p word.page word.home in
      rw same
      (after.others h _ (not_x h live) (omega (arith, word.page, word.word))
      ∙ idle_words d H b.release b.price m idle claim h p w
      (record { live = live; home = word.home; page = word.page; word = word.word })))

  -- ---- the rack that runs

  two : TwoLive d'
  two =
      record {
        one = rack.two.one;
        two = rack.two.two;
        differ = rack.two.differ;
        first = live_still rack.two.one rack.two.first;
        second = live_still rack.two.two rack.two.second;
      }

  below : (c : ℕ) → is_live d' c ≡ true → c < d.cards
  below c live =
      elim (ℕ_discrete c x) [
        | yes same ↦ rw same real
        | no other ↦ shape.below c (live_before c other live)
      ]

  -- a record on another card than x
  kept_recorded : (c h : ℕ) (R : Opened) → c < 8 → h ≢ x → Recorded c R (b.last c) (load (size_of d) m h)
      → Recorded c R (b.last c) (load (size_of d) m' h)
  kept_recorded c h R little other recorded =
      recorded_kept c R (b.last c) _ _ (λ o in-record. after.others h o other (omega arith)) recorded

  live_recorded : (c : ℕ) → is_live d' c ≡ true → Recorded c none (b.last c) (load (size_of d) m' (backup_of d' c))
  live_recorded c live =
      elim (ℕ_discrete c x) [
        | yes same ↦ rw same joined
        | no other ↦ elim (ℕ_discrete (backup_of d' c) x) [
          | yes its ↦ rw its (after.backed_recorded c (live_before c other live) its)
          | no elsewhere ↦
              let was = live_before c other live in
              rw (← (same_backup c elsewhere))
              (kept_recorded c (backup_of d c) none (small c was) (not_x (backup_of d c) (nexts c))
              (rw (idle c) at (rack.core.recorded c was (nexts c))))
        ]
      ]
    where
      joined : Recorded x none (b.last x) (load (size_of d) m' (backup_of d' x))
      joined =
          let elsewhere = next_is_other d' two below x in
          let up = live_before (backup_of d' x) elsewhere (next_is_live d' two below x) in
          kept_recorded x (backup_of d' x) none few elsewhere (rack.records x (backup_of d' x) dead real up)

  kept_own : (c : ℕ) → c ≢ x → SameOwn (size_of d) m m' c
  kept_own c other =
      record {
        same_length = after.same_length;
        low = λ o less. after.others c o other (omega arith);
        list = λ o inside. after.others c o other (omega arith);
      }

  stands : (c : ℕ) → is_live d' c ≡ true → Standing d.pages m' c (b.release c)
  stands c live =
      elim (ℕ_discrete c x) [
        | yes same ↦ rw (same, idle x) after.shut
        | no other ↦ standing_kept d.pages m m' c (b.release c) (kept_own c other)
            (rack.core.standing c (live_before c other live))
      ]

  owns : (c : ℕ) → is_live d' c ≡ true → Own (b.release c) (own_release (size_of d) m' c) (b.last c)
  owns c live =
      elim (ℕ_discrete c x) [
        | yes same ↦ rw (same, idle x) after.own
        | no other ↦
            rw
            (own_words_kept (size_of d) m m' c after.same_length (λ o less. after.others c o other (omega arith)))
            (rack.core.owns c (live_before c other live))
      ]

  joined_core : Core d' (backup_of d') (load (size_of d) m') (Unit {0}) (Unit {0}) m' b
  joined_core =
      let core = rack.core in
      record {
        shape = record {
          few_cards = shape.few_cards;
          few_pages = shape.few_pages;
          whole = after.same_length ∙ shape.whole;
          below = below;
        };
        standing = stands;
        gone = λ c now. core.gone c (dead_before c now).0;
        under = core.under;
        eights = core.eights;
        last_eight = core.last_eight;
        disjoint = core.disjoint;
        numbers = core.numbers;
        owns = owns;
        tentative = λ _. page_claim (tentatives d (backup_of d)) (tentatives d' (backup_of d')) refl (omega arith)
            (core.tentative tt);
        committed = λ _. page_claim (committeds d (backup_of d)) (committeds d' (backup_of d')) refl (omega arith)
            (core.committed tt);
        recorded = λ c live up. rw (idle c) (live_recorded c live);
        dead = λ g h o gone less up in-record. refl;
      }

  records : (g h : ℕ) → is_live d' g ≡ false → g < d.cards → is_live d' h ≡ true
      → Recorded g none (b.last g) (load (size_of d) m' h)
  records g h gone less live =
      let was = dead_before g gone in
      elim (ℕ_discrete h x) [
        | yes same ↦ rw same (after.dead_recorded g was.0 was.1 less)
        | no other ↦ kept_recorded g h none (omega (arith, shape.few_cards)) other
            (rack.records g h was.0 less (live_before h other live))
      ]

  runs : RunningRack d' m' b
  runs =
      record {
        running = rack.running;
        arrays = record {
          least = rack.arrays.least;
          some = rack.arrays.some;
          marks = length-set d.live x true ∙ rack.arrays.marks;
          primaries = rack.arrays.primaries;
          secondaries = rack.arrays.secondaries;
        };
        core = joined_core;
        records = records;
        two = two;
        primary_live = λ p page. live_still (primary_of d p) (rack.primary_live p page);
        secondary_live = λ p page. live_still (secondary_of d p) (rack.secondary_live p page);
        homes_differ = rack.homes_differ;
      }

  pub joins : RunningRack (marked_live d x) (joined_memory d x m) b
  joins = runs
