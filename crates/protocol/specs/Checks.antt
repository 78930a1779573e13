-- What a call refuses, in order (document 01, "What the rack refuses, by who caused it"), and refusals 1, 2 and 11.
-- Assumes nothing: these are definitions.
use Rattle.std.specs.Prelude.{ℕ, ◌+◌, ◌*◌, List, [], ◌∷◌, ◌++◌, Bool, true, false, cond, not, ◌&&◌, ◌||◌, length, ltb}
use Rattle.std.specs.Prelude.{leb, eqb, Ok, Err}
use Rattle.laws.specs.Search.{any_below, count_below}
use Rattle.answer.specs.declared.Outcome.{Outcome}
use Rattle.answer.specs.Outcome.{given, refused_at, limits, unfit, no_card, recovery_awaited}
use Rattle.directory.specs.declared.Directory.{Directory}
use Rattle.directory.specs.declared.Status.{Status}
use Rattle.directory.specs.declared.Status.TheVariants.{Running, Awaiting}
use Rattle.directory.specs.Directory.{live_at, is_live, primary_of, secondary_of, awaits_card}
use Rattle.area.specs.Prelude.{load, area_size, open_flag, open_list, steps_of}
use Rattle.diff.specs.Reading.{Verdict, read_diff}

-- ---- checks in order

-- a cause to refuse, with its number and place
pub record Check : Type 0 where
  pub refuses : Bool
  pub number : ℕ
  pub place : ℕ

abbrev pub check : Bool → ℕ → Check
check refuses number = record { refuses = refuses; number = number; place = 0 }

abbrev pub check_at : Bool → ℕ → ℕ → Check
check_at refuses number place = record { refuses = refuses; number = number; place = place }

-- the first check that refuses; if none does, the call is accepted and gives `value`
unfoldable pub first_refusal : List Check → ℕ → Outcome
first_refusal [] value = given value
first_refusal (c ∷ cs) value = cond c.refuses (refused_at c.number c.place) (first_refusal cs value)

-- ---- 1: "cards or pages outside their limits, or a memory not of the stated length"

unfoldable pub outside_limits : ℕ → ℕ → ℕ → Bool
outside_limits words cards pages =
    ltb cards 3 || (ltb 8 cards || (ltb pages 1 || (ltb 64 pages || not (eqb words (cards * area_size pages)))))

-- ---- 2: memory and directory that do not fit each other

-- "fewer than two live cards"
unfoldable pub few_live : List Bool → ℕ → Bool
few_live marks cards = ltb (count_below (live_at marks) cards) 2

-- homes "not below the number of cards, or dead and not the awaited card"
unfoldable pub bad_home : ℕ → List Bool → Status → ℕ → Bool
bad_home cards marks status h = leb cards h || (not (live_at marks h) && not (awaits_card status h))

-- "homes equal", or one of them bad
unfoldable pub bad_page : Directory → ℕ → Bool
bad_page d p =
    eqb (primary_of d p) (secondary_of d p)
    || (bad_home d.cards d.live d.status (primary_of d p) || bad_home d.cards d.live d.status
    (secondary_of d p))

-- "an awaited card that is live or does not exist"
unfoldable pub bad_status : ℕ → List Bool → Status → Bool
bad_status cards marks Running = false
bad_status cards marks (Awaiting f) = leb cards f || live_at marks f

-- "an open release whose list is faulty or whose steps exceed 4k + 10"
unfoldable pub bad_release : Verdict → ℕ → Bool
bad_release (Ok read) steps = ltb (4 * read.prices + 10) steps
bad_release (Err error) steps = true

-- "word 9 above 1" (word 10 since document 02, request 5), or a bad release: by that word, the steps and the list
abbrev pub bad_open : ℕ → ℕ → ℕ → List ℕ → Bool
bad_open pages flag steps list = ltb 1 flag || (eqb flag 1 && bad_release (read_diff pages list) steps)

-- of a live card
unfoldable pub bad_card : List Bool → ℕ → List ℕ → ℕ → Bool
bad_card marks pages m c =
    live_at marks c
    && bad_open pages (load (area_size pages) m c open_flag) (steps_of (area_size pages) m c)
    (open_list (area_size pages) m c)

-- a bad page, status or card; which cards are bad is told by a test
abbrev pub unfit_by : Directory → (ℕ → Bool) → Bool
unfit_by d bad =
    few_live d.live d.cards
    || (any_below (bad_page d) d.pages || (bad_status d.cards d.live d.status || any_below bad d.cards))

unfoldable pub unfit_rack : Directory → List ℕ → Bool
unfit_rack d m = unfit_by d (bad_card d.live d.pages m)

-- ---- 11, and the checks that calls share

unfoldable pub awaits_recovery : Status → Bool
awaits_recovery Running = false
awaits_recovery (Awaiting f) = true

-- 1 and 2
abbrev pub fitting_checks : Directory → List ℕ → List Check
fitting_checks d m =
    check (outside_limits (length m) d.cards d.pages) limits ∷ check (unfit_rack d m) unfit ∷ []

-- 1, 2 and 11
abbrev pub running_checks : Directory → List ℕ → List Check
running_checks d m = fitting_checks d m ++ check (awaits_recovery d.status) recovery_awaited ∷ []

-- 3: "no such card"; "no such card, or dead"
abbrev pub no_such_card : Directory → ℕ → Bool
no_such_card d c = leb d.cards c

abbrev pub no_live_card : Directory → ℕ → Bool
no_live_card d c = no_such_card d c || not (is_live d c)

-- 1, 2, 11 and 3
abbrev pub card_checks : Directory → List ℕ → ℕ → List Check
card_checks d m c = running_checks d m ++ check (no_such_card d c) no_card ∷ []

abbrev pub live_card_checks : Directory → List ℕ → ℕ → List Check
live_card_checks d m c = running_checks d m ++ check (no_live_card d c) no_card ∷ []
