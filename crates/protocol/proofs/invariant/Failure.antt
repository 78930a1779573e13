-- A failure takes a rack that runs to one that awaits the recovery of the failed card.
use Rattle.std.specs.Prelude.{ℕ, ◌+◌, ◌*◌, ◌≤◌, ◌<◌, ◌≡◌, ◌≢◌, ◌⊎◌, List, [], true, false, length}
use Rattle.laws.proofs.Prelude.{refl, sym, ◌∙◌, subst, inl, inr, false≢true, arith, ℕ_discrete, dec_lt}
use mathlib.Core.Path.{fun_ext}
use lib.ListN.{length-set}
use Rattle.directory.specs.declared.Directory.{Directory}
use Rattle.directory.specs.Directory.{is_live, primary_of, secondary_of, next_live_of, backup_of}
use Rattle.directory.proofs.Live.{next_live_kept}
use Rattle.directory.proofs.Changes.{live_of_marked_dead, live_of_other}
use Rattle.area.specs.Prelude.{load, record_stamp, record_done, desk_size, load_number}
use Rattle.protocol.specs.Release.{size_of, counts_at}
use Rattle.protocol.specs.Failure.{failed_directory}
use Rattle.protocol.specs.Recovery.{backup_before}
use Rattle.protocol.specs.Book.{Opened, none, opened, list_prices, Book, update, fail_book}
use Rattle.protocol.proofs.release.WordAfter.{word_after_none}
use Rattle.protocol.proofs.book.Changes.{EightWords, uncounted_late, update_other, update_each}
use Rattle.protocol.proofs.claims.Claim.{HomeWord, Claim, claim_cleared, claim_kept}
use Rattle.protocol.proofs.claims.Halves.{tentatives, committeds, pending_committed, committed_none}
use Rattle.protocol.proofs.claims.Halves.{tentative_late, committed_early, committed_late, pending_done}
use Rattle.protocol.proofs.records.Recorded.{Numbers, Recorded}
use Rattle.protocol.proofs.invariant.Core.{Core, Under}
use Rattle.protocol.proofs.invariant.Step.{disjoint_cleared}
use Rattle.protocol.proofs.invariant.Rack.{TwoLive, RunningRack, AwaitingRack, unmarked, next_is_live}
use Rattle.protocol.proofs.invariant.Rack.{next_is_other}
use Rattle.protocol.proofs.claims.SameHomes.{pending_same, committed_same}

-- ---- the failed card's release is struck out

module _ (d : Directory) (f : ℕ) (m : List ℕ) (b : Book) (rack : RunningRack d m b) (live : is_live d f ≡ true) where
  core : Core d (backup_of d) (load (size_of d) m) (Unit {0}) (Unit {0}) m b
  core = rack.core

  few : f < 8
  few = omega (arith, core.shape.below f live, core.shape.few_cards)

  up : is_live d (backup_of d f) ≡ true
  up = next_is_live d rack.two core.shape.below f

  recorded : Recorded f (b.release f) (b.last f) (load (size_of d) m (backup_of d f))
  recorded = core.recorded f live up

  abbrev stamp : ℕ
  stamp = load_number (size_of d) m (backup_of d f) (record_stamp f)

  abbrev done : ℕ
  done = load_number (size_of d) m (backup_of d f) (record_done f)

  -- the second phase was under way: the tentative words are written, and the release counts
  cleared-tentative : stamp ≢ done → Claim d (tentatives d (backup_of d)) b.release b.price m
      → Claim d (tentatives d (backup_of d)) (update b.release f none) b.price m
  cleared-tentative differ claim = go (b.release f) refl
    where
      go : (R : Opened) → b.release f ≡ R
          → Claim d (tentatives d (backup_of d)) (update b.release f none) b.price m
      go none is = absurd (differ (recorded.stamped ∙ sym (rw is at recorded.done)))
      go (opened r list s) is =
          let marks = rw is at recorded.done in
          let counted : counts_at (length (list_prices list)) ≤ s =
          elim (dec_lt s (counts_at (length (list_prices list)))) [
            | yes early ↦ absurd (differ (recorded.stamped ∙ sym (marks.0 early)))
            | no late ↦ omega arith
          ] in
          claim_cleared d (tentatives d (backup_of d)) b.release b.price m f few core.eights core.disjoint
          (λ h p w v within. rw is
          (tentative_late d (backup_of d) f r list s (rw is at (core.eights f)) few (omega arith) h p w v within))
          (rw is (uncounted_late r list s counted)) claim

  -- it was not: no committed word is to be written, or all are
  cleared-committed : stamp ≡ done → Claim d (committeds d (backup_of d)) b.release b.price m
      → Claim d (committeds d (backup_of d)) (update b.release f none) b.price m
  cleared-committed agree claim =
      claim_cleared d (committeds d (backup_of d)) b.release b.price m f few core.eights core.disjoint
      (λ h p w v within. rw (nothing (b.release f) refl) (word_after_none h _ v)) refl claim
    where
      nothing : (R : Opened) → b.release f ≡ R → pending_committed d (backup_of d) f (b.release f) ≡ []
      nothing none is = rw is (committed_none d (backup_of d) f)
      nothing (opened r list s) is = rw is (by_steps (dec_lt s (counts_at (length (list_prices list)))))
        where
          eight : length r.desk ≡ desk_size
          eight = rw is at (core.eights f)

          by_steps : Dec (s < counts_at (length (list_prices list)))
              → pending_committed d (backup_of d) f (opened r list s) ≡ []
          by_steps (yes early) = committed_early d (backup_of d) f r list s eight early
          by_steps (no late) =
              committed_late d (backup_of d) f r list s eight (omega arith)
              ∙ pending_done d (backup_of d) f r list s eight
              (word_after_all (dec_lt s (4 * length (list_prices list) + 10)))
            where
              word_after_all : Dec (s < 4 * length (list_prices list) + 10) → 4 * length (list_prices list) + 10 ≤ s
              word_after_all (yes before) =
                  let behind = (rw is at recorded.done).1 (omega arith) before in
                  absurd (omega (arith, recorded.stamped))
              word_after_all (no past) = omega arith

  -- ---- the rack that awaits

  abbrev d' : Directory
  d' = failed_directory d f

  -- counted as live again, the card leaves the marks as they were
  before : (c : ℕ) → backup_before d' f c ≡ backup_of d c
  before c = rw (unmarked d.live f true live false)

  -- a card that is live still
  live_before : (c : ℕ) → is_live d' c ≡ true → (is_live d c ≡ true) × (c ≢ f)
  live_before c still =
      elim (ℕ_discrete c f) [
        | yes same ↦ absurd (false≢true (sym (live_of_marked_dead d f) ∙ (rw same at still)))
        | no other ↦ (sym (live_of_other d f false c other) ∙ still, other)
      ]

  live_after : (c : ℕ) → c ≢ f → is_live d c ≡ true → is_live d' c ≡ true
  live_after c other was = live_of_other d f false c other ∙ was

  dead_before : (c : ℕ) → c ≢ f → is_live d' c ≡ false → is_live d c ≡ false
  dead_before c other now = sym (live_of_other d f false c other) ∙ now

  -- the next live after the card is the one that was its backup
  same_place : next_live_of d' f ≡ backup_of d f
  same_place = next_live_kept d.live d.cards f f (next_is_other d rack.two core.shape.below f)

  home_word : (h p w : ℕ) → HomeWord d' h p w → HomeWord d h p w
  home_word h p w word =
      record { live = (live_before h word.live).0; home = word.home; page = word.page; word = word.word }

  -- the invariant, with the backups as they were
  core_before : Core d' (backup_of d) (load (size_of d) m) (stamp ≢ done) (stamp ≡ done) m (fail_book b f)
  core_before =
      record {
        shape = record {
          few_cards = core.shape.few_cards;
          few_pages = core.shape.few_pages;
          whole = core.shape.whole;
          below = λ c still. core.shape.below c (live_before c still).0;
        };
        standing = λ c still.
            let was = live_before c still in
            rw (update_other b.release f none c was.1) (core.standing c was.0);
        gone = update_each b.release f none (λ c R. is_live d' c ≡ false → R ≡ none) (λ _. refl)
            (λ c other now. core.gone c (dead_before c other now));
        under = update_each b.release f none (λ c R. Under R) tt (λ c other. core.under c);
        eights = update_each b.release f none (λ c R. EightWords R) tt (λ c other. core.eights c);
        last_eight = core.last_eight;
        disjoint = disjoint_cleared b.release f core.disjoint;
        numbers = update_each b.release f none (λ c R. Numbers R (b.last c)) tt (λ c other. core.numbers c);
        owns = λ c still.
            let was = live_before c still in
            rw (update_other b.release f none c was.1) (core.owns c was.0);
        tentative = λ differ.
            claim_kept d d' (tentatives d (backup_of d)) (tentatives d' (backup_of d)) (update b.release f none)
            b.price m m
            (λ c h p w word. home_word h p w word)
            (λ c h p w v word agrees. rw (pending_same d d' refl refl (backup_of d) c (update b.release f none c))
            agrees)
            (λ h p w word. refl) (cleared-tentative differ (core.tentative tt));
        committed = λ agree.
            claim_kept d d' (committeds d (backup_of d)) (committeds d' (backup_of d)) (update b.release f none)
            b.price m m
            (λ c h p w word. home_word h p w word)
            (λ c h p w v word agrees. rw (committed_same d d' refl refl (backup_of d) c (update b.release f none c))
            agrees)
            (λ h p w word. refl) (cleared-committed agree (core.committed tt));
        recorded = λ c still kept.
            let was = live_before c still in
            rw (update_other b.release f none c was.1)
            (core.recorded c was.0 (live_before (backup_of d c) kept).0);
        dead = λ g h o gone little still in-record. refl;
      }

  pub fails : TwoLive d' → AwaitingRack d' f m (fail_book b f)
  fails two =
      record {
        awaiting = refl;
        arrays = record {
          least = rack.arrays.least;
          some = rack.arrays.some;
          marks = length-set d.live f false ∙ rack.arrays.marks;
          primaries = rack.arrays.primaries;
          secondaries = rack.arrays.secondaries;
        };
        lost = live_of_marked_dead d f;
        real = core.shape.below f live;
        failed = refl;
        core = rw same_place (subst
            (λ (k : ℕ → ℕ). Core d' k (load (size_of d) m) (stamp ≢ done) (stamp ≡ done) m (fail_book b f))
            (sym (fun_ext before)) core_before);
        records = λ g h gone other little still.
            rack.records g h (dead_before g other gone) little (live_before h still).0;
        stamped = rw same_place recorded.stamped;
        desked = λ j within. rw same_place (recorded.desked j within);
        two = two;
        primary_live = λ p page. home (primary_of d p) (rack.primary_live p page);
        secondary_live = λ p page. home (secondary_of d p) (rack.secondary_live p page);
        homes_differ = rack.homes_differ;
      }
    where
      home : (h : ℕ) → is_live d h ≡ true → (is_live d' h ≡ true) ⊎ (h ≡ f)
      home h was =
          elim (ℕ_discrete h f) [
            | yes same ↦ inr same
            | no other ↦ inl (live_after h other was)
          ]
