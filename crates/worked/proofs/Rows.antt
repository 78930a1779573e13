-- The rows hold: what is a number is computed, by one test over the list, and the two rows on every number and every
-- stamp are proved.
use Rattle.std.specs.Prelude.{ℕ, ◌≤◌, ◌≡◌, List, [], ◌∷◌}
use Rattle.laws.proofs.Prelude.{refl, ap, ◌∙◌, arith, le-leb, lt-leb}
use Rattle.laws.specs.Search.{lowest_from, count_below, in_turn}
use Rattle.laws.specs.Examples.{AllHold, same_words, failures_from, Claims}
use Rattle.laws.proofs.Examples.{all_hold}
use Rattle.answer.specs.declared.Outcome.{Outcome}
use Rattle.answer.specs.Outcome.{refused_at, number_used}
use Rattle.directory.specs.declared.Directory.{Directory}
use Rattle.directory.specs.Directory.{formatted_directory, empty_directory, table_from, next_live}
use Rattle.directory.specs.NewHome.{pages_at, is_fewest, even_home}
use Rattle.area.specs.Prelude.{load, store, load_run, overwrite, store_run, clear_run, copy_run, zeros, Release, own_release}
use Rattle.area.specs.Prelude.{open_release, open_list, steps_of, has_open_release, recorded_release, under_way, settled_record}
use Rattle.area.specs.Prelude.{write_record, write_own_record, number_words, number_at}
use Rattle.diff.specs.Encoding.{listed, encode_from, run_length, run_header}
use Rattle.diff.specs.Marks.{changed_words, changes_of}
use Rattle.diff.specs.Making.{made_diff, lent_pages, lent_marked, make_diff}
use Rattle.diff.specs.Prices.{prices_of, prices_from, names}
use Rattle.diff.specs.Reading.{read_from, word_step, check_diff}
use Rattle.protocol.specs.Release.{size_of, release_writes, make_write, close, step_memory}
use Rattle.protocol.specs.Checks.{first_refusal, outside_limits, few_live, bad_home, bad_page, bad_status, bad_release}
use Rattle.protocol.specs.Checks.{bad_card, unfit_rack, awaits_recovery}
use Rattle.protocol.specs.Result.{Result}
use Rattle.protocol.specs.Calls.{formatting, opening_checks, opening, step, fetch, failure, recovery_by}
use Rattle.protocol.specs.Opening.{share_word, shares_with, open_memory}
use Rattle.protocol.specs.Fetch.{names_page, in_motion, committed_page}
use Rattle.protocol.specs.Recovery.{step_times, run_to_close, close_releases, restore_home, restore_page, restore_pages}
use Rattle.protocol.specs.Recovery.{lost_home, kept_home, new_home_of, copy_to_new_home, copy_to_new_homes, move_home}
use Rattle.protocol.specs.Recovery.{recovered_directory, write_failed, write_records, failed_release, restored_memory}
use Rattle.protocol.specs.Recovery.{recovered_memory, awaited_card, moved_below}
use Rattle.protocol.proofs.checks.Outcome.{outcome_of_lem}
use Rattle.worked.specs.Rows.{new_rack, changed_pages, two_prices, no_price, opened, stepped, recovered_from}
use Rattle.worked.specs.Rows.{shown_after, homes_after, completed, Idle, rows, shown}

-- ---- a number at or below the stamp

used : (d : Directory) (m : List ℕ) (card : ℕ) (r : Release) (list : List ℕ) → Idle d m card
    → r.number ≤ (own_release (size_of d) m card).number
    → (opening d m card r list).outcome ≡ refused_at number_used (own_release (size_of d) m card).number
unfolding opening first_refusal awaits_recovery
used d m card r list idle low =
    let o : Outcome = first_refusal (opening_checks d m card r.number list) 0 in
    let done : Result = record { outcome = o; directory = d; memory = open_memory (size_of d) m card r list; words = [] }
    in
    rw (
      outcome_of_lem o done d m [] refl,
      idle.limits,
      idle.fit,
      idle.running,
      lt-leb d.cards card idle.exists,
      idle.live,
      idle.idle,
      le-leb r.number (own_release (size_of d) m card).number low,
    )

-- ---- the lists, computed at once

all_shown : AllHold (completed ∷ rows)
unfolding same_words failures_from Claims number_words number_at lowest_from count_below in_turn load store load_run overwrite
    store_run clear_run copy_run zeros formatted_directory empty_directory table_from next_live listed encode_from
    changed_words changes_of made_diff run_length run_header lent_pages lent_marked make_diff prices_of prices_from names read_from word_step check_diff own_release
    open_release open_list steps_of has_open_release release_writes make_write close step_memory recorded_release under_way settled_record
    write_record write_own_record first_refusal outside_limits few_live bad_home bad_page bad_status bad_release bad_card
    unfit_rack awaits_recovery formatting share_word shares_with open_memory opening step names_page in_motion committed_page
    fetch failure step_times run_to_close close_releases restore_home restore_page restore_pages lost_home kept_home new_home_of
    copy_to_new_home copy_to_new_homes move_home recovered_directory write_failed write_records failed_release restored_memory
    recovered_memory awaited_card recovery_by moved_below pages_at is_fewest even_home new_rack changed_pages two_prices no_price
    opened stepped recovered_from shown_after homes_after
all_shown =
    all_hold (completed ∷ rows) refl (
      (λ d m card r list idle stamp small. used d m card r list idle (omega arith) ∙ ap (refused_at number_used) stamp),
      ((λ d m card r list idle zero. used d m card r list idle (omega arith)), tt),
    )

pub rows_hold : AllHold rows
unfolding AllHold
rows_hold = all_shown.1

pub shown_holds : AllHold shown
unfolding AllHold
shown_holds = (rows_hold.1.1.1.1.1.0, (rows_hold.1.1.1.1.0, (all_shown.0, tt)))
