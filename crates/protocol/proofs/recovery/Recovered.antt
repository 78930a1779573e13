-- The rack after a recovery: it runs, beside the book that counted and struck out.
use Rattle.std.specs.Prelude.{ℕ, ◌<◌, ◌≡◌, ◌≢◌, ◌⊎◌, List, Bool, true, false}
use Rattle.laws.proofs.Prelude.{refl, sym, ◌∙◌, inl, inr, arith}
use Rattle.directory.specs.declared.Directory.{Directory}
use Rattle.directory.specs.declared.Status.TheVariants.{Running}
use Rattle.directory.specs.Directory.{directory_of, is_live, primary_of, secondary_of, backup_of}
use Rattle.directory.specs.NewHome.{HomeRule, NamesLive}
use Rattle.area.specs.Prelude.{load, open_flag}
use Rattle.area.proofs.Prelude.{own_words_kept}
use Rattle.diff.proofs.Prices.{names_none}
use Rattle.protocol.specs.Release.{size_of}
use Rattle.protocol.specs.Recovery.{close_releases, restored_memory, lost_home, kept_home, new_home_of, copy_to_new_homes}
use Rattle.protocol.specs.Recovery.{failed_release, write_records, recovered_directory, recovered_memory}
use Rattle.protocol.specs.Book.{Book, count_open, clear_open}
use Rattle.protocol.proofs.release.WordAfter.{HomeOf}
use Rattle.protocol.proofs.claims.Claim.{claim_idle}
use Rattle.protocol.proofs.claims.Halves.{tentatives, committeds}
use Rattle.protocol.proofs.invariant.Core.{Core}
use Rattle.protocol.proofs.recovery.Copying.{BothHalves, both_halves_same}
use Rattle.protocol.proofs.recovery.Homes.{MovedBelow, moved_homes, moved, recovered_parts, whole_primary}
use Rattle.protocol.proofs.recovery.Homes.{whole_secondary, kept_primary}
use Rattle.protocol.proofs.invariant.Rack.{RunningRack, AwaitingRack}
use Rattle.protocol.proofs.recovery.Records.{RecordsWritten, records_written}
use Rattle.protocol.proofs.recovery.BeforeRecords as before_records

module _ (d : Directory) (f : ℕ) (m : List ℕ) (b : Book) (rack : AwaitingRack d f m b) (rule : HomeRule)
    (good : NamesLive rule) where
  abbrev book_after : Book
  book_after = clear_open (count_open b)

  abbrev memory_closed : List ℕ
  memory_closed = close_releases d f m

  abbrev memory_copied : List ℕ
  memory_copied = copy_to_new_homes rule d f (restored_memory d f m)

  abbrev memory_recorded : List ℕ
  memory_recorded = write_records d f (failed_release d f m) memory_copied

  written : RecordsWritten d book_after memory_closed memory_copied memory_recorded
  written = records_written d f m b rack rule good

  page_both_halves : (h p : ℕ) → p < d.pages → BothHalves (size_of d) book_after.price memory_copied h p
      → BothHalves (size_of d) book_after.price memory_recorded h p
  page_both_halves h p page both = both_halves_same (λ o within. written.word_in_page h p o page within) both

  -- ---- the directory with its homes moved

  abbrev homes : Directory
  homes = moved_homes rule d f (before_records.enough rack)

  abbrev d' : Directory
  d' = directory_of d.cards d.pages d.live homes.primary homes.secondary Running

  moves : MovedBelow rule d f d.pages homes
  moves = moved rule d f (before_records.enough rack)

  first : (p : ℕ) → p < d.pages → primary_of d' p ≡ kept_home d f p
  first p page = moves.first p page

  -- a page's second home is a new one, or the one it had
  abbrev SecondHome : ℕ → Type 0
  SecondHome p =
      ((lost_home d f p ≡ true) × (secondary_of d' p ≡ new_home_of rule d f p))
      ⊎ ((lost_home d f p ≡ false) × (secondary_of d' p ≡ secondary_of d p))

  second : (p : ℕ) → p < d.pages → SecondHome p
  second p page = go (lost_home d f p) refl
    where
      go : (lost : Bool) → lost_home d f p ≡ lost → SecondHome p
      go true lost = inl (lost, moves.second p page ∙ rw lost)
      go false whole = inr (whole, moves.second p page ∙ rw whole)

  -- the second home of a page that lost none is live
  whole_live : (p : ℕ) → p < d.pages → lost_home d f p ≡ false → is_live d (secondary_of d p) ≡ true
  whole_live p page whole = go (rack.secondary_live p page)
    where
      go : (is_live d (secondary_of d p) ≡ true) ⊎ (secondary_of d p ≡ f) → is_live d (secondary_of d p) ≡ true
      go (inl live) = live
      go (inr lost) = absurd (whole_secondary d f p whole lost)

  home_both_halves : (h p : ℕ) → HomeOf d' h p → p < d.pages
      → BothHalves (size_of d) book_after.price memory_recorded h p
  home_both_halves h p (inr home) page =
      rw (home, first p page)
      (page_both_halves (kept_home d f p) p page
      ((before_records.pages_copied d f m b rack rule good).stays (kept_home d f p) p page
      (before_records.kept_both_halves d f m b rack p page)))
  home_both_halves h p (inl home) page = go (second p page)
    where
      go : SecondHome p → BothHalves (size_of d) book_after.price memory_recorded h p
      go (inl new) =
          rw (home, new.1)
          (page_both_halves (new_home_of rule d f p) p page
          ((before_records.pages_copied d f m b rack rule good).new p page page new.0))
      go (inr old) =
          rw (home, old.1)
          (page_both_halves (secondary_of d p) p page
          ((before_records.pages_copied d f m b rack rule good).stays (secondary_of d p) p page
          (before_records.restored_both_halves d f m b rack (secondary_of d p) p (whole_live p page old.0)
          (inl refl) page)))

  -- ---- the rack that runs

  recovered_core : Core d' (backup_of d) (load (size_of d) memory_recorded) (Unit {0}) (Unit {0}) memory_recorded book_after
  recovered_core =
      let closed = before_records.closed d f m b rack in
      record {
        shape = record {
          few_cards = closed.shape.few_cards;
          few_pages = closed.shape.few_pages;
          whole = written.same_length ∙ closed.shape.whole;
          below = closed.shape.below;
        };
        standing = λ c live. written.own_word c open_flag (omega arith) ∙ closed.standing c live;
        gone = λ c dead. refl;
        under = λ c. tt;
        eights = λ c. tt;
        last_eight = closed.last_eight;
        disjoint = λ c x label other named. names_none label;
        numbers = λ c. tt;
        owns = λ c live.
            own_words_kept (size_of d) memory_closed memory_recorded c written.same_length
            (λ o less. written.own_word c o (omega arith))
            ∙ closed.owns c live;
        tentative = λ _. claim_idle d' (tentatives d' (backup_of d)) book_after.release
            book_after.price memory_recorded (λ c. refl)
            (λ h p w word. (home_both_halves h p word.home word.page).tentatives w word.word);
        committed = λ _. claim_idle d' (committeds d' (backup_of d)) book_after.release
            book_after.price memory_recorded (λ c. refl)
            (λ h p w word. (home_both_halves h p word.home word.page).committeds w word.word);
        recorded = λ c live up. written.live_recorded c live;
        dead = λ g h o gone less live in-record. refl;
      }

  runs : RunningRack d' memory_recorded book_after
  runs =
      record {
        running = refl;
        arrays = record {
          least = rack.arrays.least;
          some = rack.arrays.some;
          marks = rack.arrays.marks;
          primaries = moves.primaries ∙ rack.arrays.primaries;
          secondaries = moves.secondaries ∙ rack.arrays.secondaries;
        };
        core = recovered_core;
        records = written.dead_recorded;
        two = record {
          one = rack.two.one;
          two = rack.two.two;
          differ = rack.two.differ;
          first = rack.two.first;
          second = rack.two.second;
        };
        primary_live = λ p page. rw (first p page) (before_records.kept_home_lem d f m b rack p page).0;
        secondary_live = λ p page. second_live p page (second p page);
        homes_differ = λ p page. differ p page (second p page);
      }
    where
      second_live : (p : ℕ) → p < d.pages → SecondHome p → is_live d (secondary_of d' p) ≡ true
      second_live p page (inl new) = rw new.1 (before_records.new_home d f m b rack rule good p page)
      second_live p page (inr old) = rw old.1 (whole_live p page old.0)

      differ : (p : ℕ) → p < d.pages → SecondHome p → primary_of d' p ≢ secondary_of d' p
      differ p page (inl new) same =
          before_records.new_is_other d f m b rack rule good p page (sym new.1 ∙ sym same ∙ first p page)
      differ p page (inr old) same =
          rack.homes_differ p page
          (sym (kept_primary d f p (whole_primary d f p old.0)) ∙ sym (first p page) ∙ same ∙ old.1)

  pub recovers : RunningRack (recovered_directory rule d f) (recovered_memory rule d f m) book_after
  unfolding recovered_memory
  recovers =
      rw (recovered_parts rule d f (before_records.enough rack))
      runs
