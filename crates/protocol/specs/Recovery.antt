-- Recovery of a failed card (document 01, "Failure, recovery, join"; refusals 1, 2, 12).
-- Assumes nothing: these are definitions.
use Rattle.std.specs.Prelude.{ℕ, zero, suc, ◌-◌, List, [], ◌∷◌, ◌++◌, Bool, cond, not, ◌&&◌, ◌||◌, length, eqb}
use Rattle.laws.specs.Search.{in_turn}
use Rattle.answer.specs.declared.Outcome.{Outcome}
use Rattle.answer.specs.Outcome.{none_awaited}
use Rattle.directory.specs.declared.Directory.{Directory}
use Rattle.directory.specs.declared.Status.{Status}
use Rattle.directory.specs.declared.Status.TheVariants.{Running, Awaiting}
use Rattle.directory.specs.Directory.{is_live, primary_of, secondary_of, next_live_of, backup_of, marked_live, with_homes}
use Rattle.directory.specs.Directory.{with_status}
use Rattle.directory.specs.NewHome.{HomeRule, even_home}
use Rattle.area.specs.Prelude.{copy_run, zeros, desk_size, page_size, tentative, committed, stored_page_size, page_at}
use Rattle.area.specs.Prelude.{Release, steps_of, has_open_release, recorded_release, under_way, write_record, write_own_record}
use Rattle.protocol.specs.Release.{size_of, open_prices, steps_in, step_memory}
use Rattle.protocol.specs.Checks.{Check, check, first_refusal, fitting_checks, awaits_recovery}
use Rattle.protocol.specs.Result.{Result, result_of}

-- "Homes and backups are here those from before the failure": a card's backup with f counted as live
abbrev pub backup_before : Directory → ℕ → ℕ → ℕ
backup_before d f c = backup_of (marked_live d f) c

-- ---- "Each open release on a live card, ascending, is run to its close."

unfoldable pub step_times : Directory → ℕ → ℕ → ℕ → List ℕ → List ℕ
step_times d backup c zero m = m
step_times d backup c (suc n) m = step_times d backup c n (step_memory d backup m c)

unfoldable pub run_to_close : Directory → ℕ → ℕ → List ℕ → List ℕ
run_to_close d f c m =
    cond (has_open_release d.live (size_of d) m c)
    (step_times d (backup_before d f c) c (steps_in (length (open_prices d.pages m c)) - steps_of (size_of d) m c) m)
    m

unfoldable pub close_releases : Directory → ℕ → List ℕ → List ℕ
close_releases d f m = in_turn (run_to_close d f) d.cards m

-- ---- "If stamp and done mark differ, each live home of each page copies tentative to committed. If they agree,
-- committed to tentative." (Rolled forward and rolled back, in the order of 004, section 4.5.2.)

unfoldable pub restore_home : Directory → Bool → ℕ → ℕ → List ℕ → List ℕ
restore_home d forward page home m =
    cond (is_live d home)
    (cond forward
    (copy_run (size_of d) m home (tentative page) home (committed page) page_size)
    (copy_run (size_of d) m home (committed page) home (tentative page) page_size))
    m

unfoldable pub restore_page : Directory → Bool → ℕ → List ℕ → List ℕ
restore_page d forward page m =
    restore_home d forward page (primary_of d page) (restore_home d forward page (secondary_of d page) m)

unfoldable pub restore_pages : Directory → Bool → List ℕ → List ℕ
restore_pages d forward m = in_turn (restore_page d forward) d.pages m

-- ---- "A page whose primary was f takes its secondary as primary." A page that lost a home gets as secondary the card
-- that a rule names, with both copies. "Pages are taken in rising order, each choice counted in the next" (document 02,
-- request 4): the rule is told the directory in which the pages before it have their new homes.

unfoldable pub lost_home : Directory → ℕ → ℕ → Bool
lost_home d f page = eqb (primary_of d page) f || eqb (secondary_of d page) f

unfoldable pub kept_home : Directory → ℕ → ℕ → ℕ
kept_home d f page = cond (eqb (primary_of d page) f) (secondary_of d page) (primary_of d page)

-- a page's turn: its own homes stand in the directory until then
unfoldable pub move_home : HomeRule → ℕ → ℕ → Directory → Directory
move_home rule f page d =
    cond (lost_home d f page) (with_homes d page (kept_home d f page) (rule d (kept_home d f page))) d

-- the pages below n have had their turns
unfoldable pub moved_below : HomeRule → Directory → ℕ → ℕ → Directory
moved_below rule d f n = in_turn (move_home rule f) n d

unfoldable pub new_home_of : HomeRule → Directory → ℕ → ℕ → ℕ
new_home_of rule d f page = rule (moved_below rule d f page) (kept_home d f page)

unfoldable pub copy_to_new_home : HomeRule → Directory → ℕ → ℕ → List ℕ → List ℕ
copy_to_new_home rule d f page m =
    cond (lost_home d f page)
    (copy_run (size_of d) m (kept_home d f page) (page_at page) (new_home_of rule d f page) (page_at page)
    stored_page_size)
    m

unfoldable pub copy_to_new_homes : HomeRule → Directory → ℕ → List ℕ → List ℕ
copy_to_new_homes rule d f m = in_turn (copy_to_new_home rule d f) d.pages m

-- the directory after recovery: homes moved, and running
unfoldable pub recovered_directory : HomeRule → Directory → ℕ → Directory
recovered_directory rule d f = with_status (moved_below rule d f d.pages) Running

-- ---- "f's record .. is written on every live card. Each live card whose backup was f has its record written likewise
-- on its new backup, from its own stamp and desk."

unfoldable pub write_failed : Directory → ℕ → Release → ℕ → List ℕ → List ℕ
write_failed d f r holder m = cond (is_live d holder) (write_record (size_of d) m holder f r) m

abbrev pub backup_was : Directory → ℕ → ℕ → Bool
backup_was d f c = is_live d c && eqb (backup_before d f c) f

unfoldable pub write_records : Directory → ℕ → Release → List ℕ → List ℕ
write_records d f r m =
    in_turn (write_own_record (size_of d) (backup_was d f) (backup_of d)) d.cards
    (in_turn (write_failed d f r) d.cards m)

-- ---- the whole

-- "f's record is read at the next live after f", the releases being closed
unfoldable pub failed_release : Directory → ℕ → List ℕ → Release
failed_release d f m = recorded_release (size_of d) (close_releases d f m) (next_live_of d f) f

-- the pages restored by that record, the releases being closed
unfoldable pub restored_memory : Directory → ℕ → List ℕ → List ℕ
restored_memory d f m =
    let closed : List ℕ = close_releases d f m in
    restore_pages d (under_way (size_of d) closed (next_live_of d f) f) closed

unfoldable pub recovered_memory : HomeRule → Directory → ℕ → List ℕ → List ℕ
recovered_memory rule d f m = write_records d f (failed_release d f m) (copy_to_new_homes rule d f (restored_memory d f m))

-- the card whose recovery is awaited; 0 if none
unfoldable pub awaited_card : Status → ℕ
awaited_card Running = 0
awaited_card (Awaiting f) = f

abbrev pub recovery_checks : Directory → List ℕ → List Check
recovery_checks d m = fitting_checks d m ++ check (not (awaits_recovery d.status)) none_awaited ∷ []

-- "The answer is f's stamp and desk."
unfoldable pub recovery_by : HomeRule → Directory → List ℕ → Result
recovery_by rule d m =
    let f : ℕ = awaited_card d.status in
    let o : Outcome = first_refusal (recovery_checks d m) (failed_release d f m).number in
    result_of o
    (record {
      outcome = o;
      directory = recovered_directory rule d f;
      memory = recovered_memory rule d f m;
      words = (failed_release d f m).desk;
    })
    d m (zeros desk_size)

-- by the rule of document 02, request 4
abbrev pub recovery : Directory → List ℕ → Result
recovery d m = recovery_by even_home d m
