-- A dead card joins again (document 01, "Failure, recovery, join"; refusals 1, 2, 11, 3, 14, 15).
-- Assumes nothing: these are definitions.
use Rattle.std.specs.Prelude.{ℕ, List, [], ◌∷◌, ◌++◌, Bool, cond, not, ◌&&◌, eqb}
use Rattle.laws.specs.Search.{any_below, in_turn}
use Rattle.answer.specs.declared.Outcome.{Outcome}
use Rattle.answer.specs.Outcome.{card_live, join_while_open}
use Rattle.directory.specs.declared.Directory.{Directory}
use Rattle.directory.specs.Directory.{is_live, next_live_of, backup_of, marked_live}
use Rattle.area.specs.Prelude.{store_run, clear_run, copy_run, own_stamp, record_size, record_at, Release, has_open_release}
use Rattle.area.specs.Prelude.{release_words, recorded_release, write_own_record}
use Rattle.protocol.specs.Release.{size_of}
use Rattle.protocol.specs.Checks.{Check, check, first_refusal, card_checks}
use Rattle.protocol.specs.Result.{Result, result_of}

abbrev pub join_checks : Directory → List ℕ → ℕ → List Check
join_checks d m x =
    card_checks d m x
    ++ check (is_live d x) card_live
    ∷ check (any_below (has_open_release d.live (size_of d) m) d.cards) join_while_open
    ∷ []

-- "zeroes the dead card's area, gives it stamp and desk from its record"
unfoldable pub reset_area : Directory → ℕ → List ℕ → List ℕ
reset_area d x m =
    let r : Release = recorded_release (size_of d) m (next_live_of d x) x in
    store_run (size_of d) (clear_run (size_of d) m x 0 (size_of d)) x own_stamp (release_words r)

-- "writes on it the other dead cards' records (whole, from where they stood before the join)"
unfoldable pub copy_dead_record : Directory → ℕ → ℕ → List ℕ → List ℕ
copy_dead_record d x c m =
    cond (not (is_live d c) && not (eqb c x))
    (copy_run (size_of d) m (next_live_of d c) (record_at c) x (record_at c) record_size)
    m

-- "and, made as in recovery, that of the live card whose backup it now is"
abbrev pub backup_is : Directory → ℕ → ℕ → Bool
backup_is d x c = is_live d c && eqb (backup_of (marked_live d x) c) x

unfoldable pub joined_memory : Directory → ℕ → List ℕ → List ℕ
joined_memory d x m =
    in_turn (write_own_record (size_of d) (backup_is d x) (λ c. x)) d.cards
    (in_turn (copy_dead_record d x) d.cards (reset_area d x m))

-- "Homes do not move."
unfoldable pub join : Directory → List ℕ → ℕ → Result
join d m x =
    let o : Outcome = first_refusal (join_checks d m x) 0 in
    result_of o (record { outcome = o; directory = marked_live d x; memory = joined_memory d x m; words = [] }) d m []
