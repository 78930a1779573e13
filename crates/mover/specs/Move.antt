-- The mover (document 02, request 5): "takes an old memory to the new form and back", for a directory, from one lent
-- memory into another.
-- Assumes nothing: these are definitions.
use Rattle.std.specs.Prelude.{ℕ, ◌*◌, List, [], ◌∷◌, ◌++◌, Bool, not, ◌&&◌, ◌||◌, length, ltb, eqb}
use Rattle.laws.specs.Search.{any_below}
use Rattle.answer.specs.declared.Outcome.{Outcome}
use Rattle.answer.specs.Outcome.{limits, unfit, recovery_awaited, join_while_open, stamp_too_high}
use Rattle.directory.specs.declared.Directory.{Directory}
use Rattle.directory.specs.Directory.{live_at}
use Rattle.area.specs.Prelude.{load, load_run, list_size, load_number, own_stamp, record_stamp, record_done, record_count}
use Rattle.protocol.specs.Release.{size_of}
use Rattle.protocol.specs.Checks.{Check, check, first_refusal, outside_limits, bad_open, unfit_by, awaits_recovery}
use Rattle.protocol.specs.Result.{Result, result_of}
use Rattle.mover.specs.declared.forms.Places.{Places}
use Rattle.mover.specs.Forms.{old_form, new_form, area_size_in, places_in}
use Rattle.mover.specs.Fields.{rack_fields, moved}

-- ---- what an accepted move leaves in the other memory

abbrev pub moved_in : Directory → List ℕ → List ℕ
moved_in d old = moved old_form new_form (rack_fields d.cards d.pages) old

-- "On the way back a dead card's high words, and those of release numbers, are dropped"; others are 0, by refusal 20
abbrev pub moved_back : Directory → List ℕ → List ℕ
moved_back d new = moved new_form old_form (rack_fields d.cards d.pages) new

-- ---- what it refuses

-- 1: "cards or pages outside their limits", or either memory not of its length
abbrev pub outside_limits_of : ℕ → ℕ → ℕ → ℕ → Bool
outside_limits_of oldWords newWords cards pages =
    outside_limits newWords cards pages || not (eqb oldWords (cards * area_size_in old_form pages))

-- 2, of a live card whose area has these places
abbrev pub bad_card_at : Places → List Bool → ℕ → List ℕ → ℕ → Bool
bad_card_at at marks pages m c =
    live_at marks c
    && bad_open pages (load at.size m c at.flag) (load at.size m c at.steps)
    (load_run at.size m c at.list list_size)

-- a release is open on it
abbrev pub open_at : Places → List Bool → List ℕ → ℕ → Bool
open_at at marks m c = live_at marks c && eqb (load at.size m c at.flag) 1

-- 1, 2, 11 and 15; 2 and 15 are read in the source, which has these places
abbrev pub move_checks : Places → Directory → ℕ → ℕ → List ℕ → List Check
move_checks at d oldWords newWords source =
    check (outside_limits_of oldWords newWords d.cards d.pages) limits
    ∷ check (unfit_by d (bad_card_at at d.live d.pages source)) unfit
    ∷ check (awaits_recovery d.status) recovery_awaited
    ∷ check (any_below (open_at at d.live source) d.cards) join_while_open
    ∷ []

-- "above 4294967295"
abbrev pub above_one_word : ℕ → Bool
above_one_word number = ltb 4294967295 number

-- the record of a card, in the area of its holder, has such a stamp or done mark
unfoldable pub high_record : ℕ → List ℕ → ℕ → ℕ → Bool
high_record size m holder c =
    above_one_word (load_number size m holder (record_stamp c)) || above_one_word (load_number size m holder (record_done c))

-- an area has such an own stamp, or such a record, be it of a card that the rack has not
unfoldable pub high_area : ℕ → List ℕ → ℕ → Bool
high_area size m c = above_one_word (load_number size m c own_stamp) || any_below (high_record size m c) record_count

-- 20: "a stamp or done mark on a live card's area is above 4294967295"
abbrev pub high_card : List Bool → ℕ → List ℕ → ℕ → Bool
high_card marks size m c = live_at marks c && high_area size m c

abbrev pub too_high : Directory → List ℕ → Bool
too_high d m = any_below (high_card d.live (size_of d) m) d.cards

-- ---- both ways

-- what a move comes to, by the outcome of its checks: the words that are moved stand in the other memory, or it is kept
abbrev pub moved_by : Outcome → Directory → List ℕ → List ℕ → Result
moved_by o d words other =
    result_of o (record { outcome = o; directory = d; memory = words; words = [] }) d other []

abbrev pub move_in_checks : Directory → List ℕ → List ℕ → List Check
move_in_checks d old new = move_checks (places_in old_form d.pages) d (length old) (length new) old

unfoldable pub move_in : Directory → List ℕ → List ℕ → Result
move_in d old new = moved_by (first_refusal (move_in_checks d old new) 0) d (moved_in d old) new

abbrev pub move_back_checks : Directory → List ℕ → List ℕ → List Check
move_back_checks d new old =
    move_checks (places_in new_form d.pages) d (length old) (length new) new ++ check (too_high d new) stamp_too_high ∷ []

unfoldable pub move_back : Directory → List ℕ → List ℕ → Result
move_back d new old = moved_by (first_refusal (move_back_checks d new old) 0) d (moved_back d new) old
