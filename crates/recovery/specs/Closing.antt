-- Inner contracts only. What closing the open releases relies on, as a rack that passed its checks has it; one release
-- run to its close, and the memory after recovery.
use Rattle.std.specs.Prelude.{ℕ, ◌<◌, ◌≡◌, List, true, cond}
use Rattle.directory.specs.declared.Directory.{Directory}
use Rattle.directory.specs.Directory.{next_live_of}
use Rattle.directory.specs.NewHome.{even_home}
use Rattle.area.specs.Prelude.{Release, has_open_release, recorded_release, under_way}
use Rattle.protocol.specs.Release.{size_of}
use Rattle.protocol.specs.Recovery.{step_times, restore_pages, copy_to_new_homes, write_records}
use Rattle.release.specs.Stepping.{GoodRelease, left_of}

-- all open releases are good
pub record ReleasesIn (d : Directory) (m : List ℕ) : Type 0 where
  pub good : (c : ℕ) → c < d.cards → has_open_release d.live (size_of d) m c ≡ true → GoodRelease d.pages m c

-- the release that is open on a card, if one is, run to its close with this backup
unfoldable pub close_with : Directory → ℕ → ℕ → List ℕ → List ℕ
close_with d backup c m =
    cond (has_open_release d.live (size_of d) m c) (step_times d backup c (left_of d.pages m c) m) m

-- what a card's record tells, at the next live after it
abbrev pub record_of : Directory → ℕ → List ℕ → Release
record_of d f m = recorded_release (size_of d) m (next_live_of d f) f

-- the memory after recovery, from one whose releases are closed
unfoldable pub recovered_closed : Directory → ℕ → List ℕ → List ℕ
recovered_closed d f closed =
    write_records d f (record_of d f closed)
    (copy_to_new_homes even_home d f (restore_pages d (under_way (size_of d) closed (next_live_of d f) f) closed))
