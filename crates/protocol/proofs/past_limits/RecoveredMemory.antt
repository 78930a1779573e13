-- The memory and the release that a recovery goes by: nothing past a directory's cards and pages is read for them.
use Rattle.std.specs.Prelude.{ℕ, zero, suc, ◌<◌, ◌≡◌, List, Bool, true}
use Rattle.laws.proofs.Prelude.{refl, ◌∙◌}
use Rattle.laws.proofs.Search.{in_turn_agree}
use Rattle.directory.specs.declared.Directory.{Directory}
use Rattle.directory.specs.Directory.{primary_of, secondary_of, backup_of, marked_live}
use Rattle.directory.specs.NewHome.{HomeRule}
use Rattle.directory.proofs.Live.{next_live_below}
use Rattle.directory.proofs.Changes.{live_of_other}
use Rattle.area.specs.Prelude.{Release, write_own_record}
use Rattle.protocol.specs.Release.{size_of}
use Rattle.protocol.specs.Recovery.{backup_before, step_times, run_to_close, close_releases, restore_home, restore_page}
use Rattle.protocol.specs.Recovery.{restore_pages, copy_to_new_home, copy_to_new_homes, write_failed, backup_was}
use Rattle.protocol.specs.Recovery.{write_records, failed_release, restored_memory, recovered_memory}
use Rattle.protocol.specs.PastLimits.{below_limits}
use Rattle.protocol.proofs.checks.ValidDirectory.{ValidDirectory}
use Rattle.protocol.proofs.past_limits.Directory.{live_below, open_below, next_below, primary_below}
use Rattle.protocol.proofs.past_limits.Directory.{secondary_below, backup_below}
use Rattle.protocol.proofs.past_limits.Writes.{step_memory_below}
use Rattle.protocol.proofs.past_limits.Changes.{lost_below, kept_below, RuleBelow, new_below}

module _ (rule : HomeRule) (rule-below : RuleBelow rule) (d : Directory) (fit : ValidDirectory d) (f : ℕ) where
  -- ---- the open releases run to their close

  -- the backup before the failure is a card that the rack has
  backup_real : (c : ℕ) → backup_before d f c < d.cards
  backup_real c =
      let other = fit.beside f in
      next_live_below (marked_live d f).live d.cards c other.card other.below
      (live_of_other d f true other.card other.differs ∙ other.live)

  times_below : (backup c : ℕ) → backup < d.cards → (n : ℕ) (m : List ℕ)
      → step_times (below_limits d) backup c n m ≡ step_times d backup c n m
  unfolding step_times
  times_below backup c within zero m = refl
  times_below backup c within (suc n) m =
      rw (step_memory_below d fit backup within m c) (times_below backup c within n _)

  run_below : (c : ℕ) → c < d.cards → (m : List ℕ) → run_to_close (below_limits d) f c m ≡ run_to_close d f c m
  unfolding run_to_close
  run_below c below m =
      rw (
        open_below d (size_of d) m c below,
        backup_below d f c,
        times_below (backup_before d f c) c (backup_real c),
      )

  close_below : (m : List ℕ) → close_releases (below_limits d) f m ≡ close_releases d f m
  unfolding close_releases
  close_below m = in_turn_agree _ _ d.cards run_below m

  -- ---- the pages restored

  home_below : (forward : Bool) (page home : ℕ) → home < d.cards → (m : List ℕ)
      → restore_home (below_limits d) forward page home m ≡ restore_home d forward page home m
  unfolding restore_home
  home_below forward page home below m = rw (live_below d home below)

  page_below : (forward : Bool) (page : ℕ) → page < d.pages → (m : List ℕ)
      → restore_page (below_limits d) forward page m ≡ restore_page d forward page m
  unfolding restore_page
  page_below forward page within m =
      rw (
        primary_below d page within,
        secondary_below d page within,
        home_below forward page (secondary_of d page) (fit.secondary_in page within) m,
        home_below forward page (primary_of d page) (fit.primary_in page within),
      )

  pages_below : (forward : Bool) (m : List ℕ) → restore_pages (below_limits d) forward m ≡ restore_pages d forward m
  unfolding restore_pages
  pages_below forward m = in_turn_agree _ _ d.pages (page_below forward) m

  -- ---- the new homes

  copy_below : (page : ℕ) → page < d.pages → (m : List ℕ)
      → copy_to_new_home rule (below_limits d) f page m ≡ copy_to_new_home rule d f page m
  unfolding copy_to_new_home
  copy_below page within m =
      rw (lost_below d f page within, kept_below d f page within, new_below rule rule-below f d page within)

  copies_below : (m : List ℕ) → copy_to_new_homes rule (below_limits d) f m ≡ copy_to_new_homes rule d f m
  unfolding copy_to_new_homes
  copies_below m = in_turn_agree _ _ d.pages copy_below m

  -- ---- the records

  failed_below : (r : Release) (holder : ℕ) → holder < d.cards → (m : List ℕ)
      → write_failed (below_limits d) f r holder m ≡ write_failed d f r holder m
  unfolding write_failed
  failed_below r holder below m = rw (live_below d holder below)

  own_below : (c : ℕ) → c < d.cards → (m : List ℕ)
      → write_own_record (size_of d) (backup_was (below_limits d) f) (backup_of (below_limits d)) c m
      ≡ write_own_record (size_of d) (backup_was d f) (backup_of d) c m
  unfolding write_own_record
  own_below c below m = rw (live_below d c below, backup_below d f c, next_below d c)

  records_below : (r : Release) (m : List ℕ) → write_records (below_limits d) f r m ≡ write_records d f r m
  unfolding write_records
  records_below r m =
      rw (in_turn_agree _ _ d.cards (failed_below r) m) (in_turn_agree _ _ d.cards own_below _)

  -- ---- the whole

  pub release_below : (m : List ℕ) → failed_release (below_limits d) f m ≡ failed_release d f m
  unfolding failed_release
  release_below m = rw (close_below m, next_below d f)

  restored_below : (m : List ℕ) → restored_memory (below_limits d) f m ≡ restored_memory d f m
  unfolding restored_memory
  restored_below m = rw (close_below m, next_below d f) (pages_below _ _)

  pub recovered_below : (m : List ℕ) → recovered_memory rule (below_limits d) f m ≡ recovered_memory rule d f m
  unfolding recovered_memory
  recovered_below m =
      rw (release_below m, restored_below m, copies_below (restored_memory d f m)) (records_below _ _)
