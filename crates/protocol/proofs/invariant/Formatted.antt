-- A formatted rack runs, and agrees with a new book.
use Rattle.std.specs.Prelude.{ℕ, ◌+◌, zero, suc, ◌%◌, ◌<◌, ◌≡◌, ◌≢◌, true, false, ltb}
use Rattle.laws.proofs.Prelude.{refl, sym, ◌∙◌, true≢false, arith, dec_lt, lt-ltb, le-ltb, ltb-true}
use native.Mathlib.Nat.{mod-lt}
use Rattle.directory.specs.declared.Directory.{Directory}
use Rattle.directory.specs.Directory.{next_live, is_live, primary_of, secondary_of, backup_of, formatted_marks}
use Rattle.directory.specs.Directory.{formatted_primary, formatted_secondary, formatted_directory}
use Rattle.directory.proofs.Live.{next_live_is_live, next_live_other}
use Rattle.directory.proofs.Table.{table-length, table_read, read_past_end}
use Rattle.area.specs.Prelude.{load, zeros, own_desk, desk_size, own_stamp, record_stamp, record_done}
use Rattle.area.specs.Prelude.{own_release}
use Rattle.area.proofs.Prelude.{length-zeros, get_or-zeros, load-zeros, load_run_zeros, number_zero}
use Rattle.diff.proofs.Prices.{names_none}
use Rattle.protocol.specs.Release.{size_of}
use Rattle.protocol.specs.Book.{none, new_book}
use Rattle.protocol.proofs.checks.Limits.{Within}
use Rattle.protocol.proofs.release.Shape.{Shape, area_of_live}
use Rattle.protocol.proofs.recovery.Copying.{BothHalves}
use Rattle.protocol.proofs.claims.Claim.{claim_idle}
use Rattle.protocol.proofs.claims.Halves.{tentatives, committeds}
use Rattle.protocol.proofs.records.Recorded.{Recorded}
use Rattle.protocol.proofs.invariant.Core.{Core}
use Rattle.protocol.proofs.invariant.Rack.{RunningRack}

module _ (cards pages words : ℕ) (limits : Within words cards pages) where
  abbrev d : Directory
  d = formatted_directory cards pages

  -- the cards below the number of cards, and no others, are live
  pub formatted_live : (c : ℕ) → is_live d c ≡ ltb c cards
  unfolding formatted_directory
  formatted_live c =
      elim (dec_lt c 8) [
        | yes few ↦ table_read (λ c. ltb c cards) 8 c false few
        | no past ↦ sym (read_past_end (formatted_marks cards) 8 c false (table-length _ 8) (omega arith))
            ∙ sym (le-ltb c cards (omega (arith, limits.cards_most)))
      ]

  live_below : (c : ℕ) → c < cards → is_live d c ≡ true
  live_below c below = formatted_live c ∙ lt-ltb c cards below

  below_live : (c : ℕ) → is_live d c ≡ true → c < cards
  below_live c live = ltb-true c cards (sym (formatted_live c) ∙ live)

  -- each page's homes
  home_below : (p : ℕ) → p % cards < cards
  home_below p = mod-lt p (omega (arith, limits.cards_least))

  other_card : (c : ℕ) → (x : ℕ) × (x < cards) × (x ≢ c)
  other_card zero = (1, omega (arith, limits.cards_least), omega arith)
  other_card (suc c) = (0, omega (arith, limits.cards_least), omega arith)

  primary_is : (p : ℕ) → p < pages → primary_of d p ≡ p % cards
  unfolding formatted_directory
  primary_is p page =
      table_read (formatted_primary cards pages) 64 p 0 (omega (arith, limits.pages_most)) ∙ rw (lt-ltb p pages page)

  secondary_is : (p : ℕ) → p < pages → secondary_of d p ≡ next_live (formatted_marks cards) cards (p % cards)
  unfolding formatted_directory
  secondary_is p page =
      table_read (formatted_secondary cards pages) 64 p 0 (omega (arith, limits.pages_most)) ∙ rw (lt-ltb p pages page)

  next_home_live : (p : ℕ) → is_live d (next_live (formatted_marks cards) cards (p % cards)) ≡ true
  unfolding formatted_directory
  next_home_live p =
      next_live_is_live (formatted_marks cards) cards (p % cards) (p % cards) (home_below p)
      (live_below (p % cards) (home_below p))

  next_home_other : (p : ℕ) → next_live (formatted_marks cards) cards (p % cards) ≢ p % cards
  unfolding formatted_directory
  next_home_other p =
      let x = other_card (p % cards) in
      next_live_other (formatted_marks cards) cards (p % cards) x.0 x.1 (live_below x.0 x.1) x.2

  -- the memory
  shape : Shape d (zeros words)
  unfolding formatted_directory
  shape =
      record {
        few_cards = limits.cards_most;
        few_pages = limits.pages_most;
        whole = length-zeros words ∙ limits.whole;
        below = below_live;
      }

  right : (h p : ℕ) → BothHalves (size_of d) new_book.price (zeros words) h p
  right h p = record { tentatives = λ w _. load-zeros _ words h _; committeds = λ w _. load-zeros _ words h _ }

  own : (c : ℕ) → is_live d c ≡ true → own_release (size_of d) (zeros words) c ≡ new_book.last c
  unfolding own_release
  own c live =
      rw (
        number_zero (load (size_of d) (zeros words) c) own_stamp
            (λ j within. load-zeros (size_of d) words c (own_stamp + j)),
        load_run_zeros (size_of d) words c own_desk desk_size (rw (length-zeros words) at (area_of_live shape c live))
            (omega arith),
      )

  core : Core d (backup_of d) (load (size_of d) (zeros words)) (Unit {0}) (Unit {0}) (zeros words) new_book
  core =
      record {
        shape = shape;
        standing = λ c live. load-zeros _ words c _;
        gone = λ c dead. refl;
        under = λ c. tt;
        eights = λ c. tt;
        last_eight = λ c. length-zeros desk_size;
        disjoint = λ c x label other named. names_none label;
        numbers = λ c. tt;
        owns = own;
        tentative = λ _. claim_idle d (tentatives d (backup_of d)) new_book.release new_book.price (zeros words)
            (λ c. refl) (λ h p w word. (right h p).tentatives w word.word);
        committed = λ _. claim_idle d (committeds d (backup_of d)) new_book.release new_book.price (zeros words)
            (λ c. refl) (λ h p w word. (right h p).committeds w word.word);
        recorded = λ c live up. settled c (backup_of d c);
        dead = λ g h o gone less live in-record. refl;
      }
    where
      settled : (c h : ℕ) → Recorded c none (new_book.last c) (load (size_of d) (zeros words) h)
      settled c h =
          record {
            stamped = number_zero _ (record_stamp c) (λ j within. load-zeros _ words h _);
            desked = λ j within. load-zeros _ words h _ ∙ sym (get_or-zeros desk_size j);
            done = number_zero _ (record_done c) (λ j within. load-zeros _ words h _);
            parts = tt;
          }

  pub formatted : RunningRack d (zeros words) new_book
  unfolding formatted_directory
  formatted =
      record {
        running = refl;
        arrays = record {
          least = limits.cards_least;
          some = limits.pages_least;
          marks = table-length _ 8;
          primaries = table-length _ 64;
          secondaries = table-length _ 64;
        };
        core = core;
        records = λ g h dead less live. absurd (true≢false (sym (live_below g less) ∙ dead));
        two = record {
          one = 0;
          two = 1;
          differ = omega arith;
          first = live_below 0 (omega (arith, limits.cards_least));
          second = live_below 1 (omega (arith, limits.cards_least));
        };
        primary_live = λ p page. rw (primary_is p page) (live_below (p % cards) (home_below p));
        secondary_live = λ p page. rw (secondary_is p page) (next_home_live p);
        homes_differ = λ p page same. next_home_other p (sym (secondary_is p page) ∙ sym same ∙ primary_is p page);
      }
