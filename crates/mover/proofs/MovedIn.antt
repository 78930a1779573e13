-- An accepted move in: what it has passed, and that its memory passes the same checks in the new form.
use Rattle.std.specs.Prelude.{ℕ, ◌*◌, ◌<◌, ◌≡◌, List, [], true, false, length}
use Rattle.laws.proofs.Prelude.{refl, sym, ap, ◌∙◌, arith}
use Rattle.laws.proofs.Bools.{neither}
use Rattle.laws.specs.Search.{any_below}
use Rattle.laws.proofs.Search.{some_agree}
use Rattle.answer.specs.Outcome.{given}
use Rattle.directory.specs.declared.Directory.{Directory}
use Rattle.area.specs.Prelude.{open_list, steps_of, has_open_release}
use Rattle.protocol.specs.Release.{size_of}
use Rattle.protocol.specs.Checks.{outside_limits, bad_card, unfit_rack, unfit_by}
use Rattle.protocol.specs.Result.{accepted}
use Rattle.protocol.proofs.checks.Outcome.{Passed}
use Rattle.protocol.proofs.checks.ByCall.{Runs, runs_by}
use Rattle.rack.proofs.Results.{result_is}
use Rattle.mover.specs.Forms.{old_form, new_form, area_size_in, places_in}
use Rattle.mover.specs.Fields.{rack_fields}
use Rattle.mover.specs.Areas.{SameArea, NoHighWords}
use Rattle.mover.specs.Move.{bad_card_at, open_at, moved_in, move_in_checks, move_in}
use Rattle.mover.proofs.FieldWords.{rack_fields_lem, length_moved}
use Rattle.mover.proofs.Limits.{old_length, new_length}
use Rattle.mover.proofs.Results.{accepted_move}
use Rattle.mover.proofs.Areas.{same_area, high_words}

module _ (d : Directory) (old new : List ℕ) (ok : accepted (move_in d old new).outcome ≡ true) where
  abbrev m : List ℕ
  m = moved_in d old

  took : Passed (move_in_checks d old new) × (move_in d old new ≡ result_is (given 0) d m [])
  unfolding move_in
  took = accepted_move (move_in_checks d old new) d m new refl ok

  pub passed : Passed (move_in_checks d old new)
  passed = took.0

  pub leaves : (move_in d old new).memory ≡ m
  leaves = ap (λ r. r.memory) took.1

  pub old_words : length old ≡ d.cards * area_size_in old_form d.pages
  old_words = old_length (length old) (length new) d.cards d.pages passed.0

  pub new_words : length m ≡ length new
  new_words =
      length_moved old_form new_form (omega arith) (rack_fields d.cards d.pages) old
      (omega (arith, old_words, rack_fields_lem old_form d.cards d.pages))
      ∙ rack_fields_lem new_form d.cards d.pages
      ∙ sym (new_length (length old) (length new) d.cards d.pages passed.0)

  pub area_same : (c : ℕ) → c < d.cards → SameArea old_form new_form d.pages old m c
  area_same = same_area old_form new_form d.cards d.pages old (omega arith) old_words

  pub area_high : (c : ℕ) → c < d.cards → NoHighWords d.pages m c
  area_high = high_words old_form d.cards d.pages old old_words

  -- ---- checks 1, 2, 11 and 15 in the new form

  pub inside : outside_limits (length m) d.cards d.pages ≡ false
  inside = rw new_words (neither (outside_limits (length new) d.cards d.pages) _ passed.0).0

  same_bad : (c : ℕ) → c < d.cards
      → bad_card_at (places_in new_form d.pages) d.live d.pages m c
      ≡ bad_card_at (places_in old_form d.pages) d.live d.pages old c
  same_bad c real =
      let same = area_same c real in
      rw (same.at_open_flag, same.at_steps_made, same.list)

  pub fits_new : unfit_by d (bad_card_at (places_in new_form d.pages) d.live d.pages m) ≡ false
  fits_new =
      rw (some_agree (bad_card_at (places_in new_form d.pages) d.live d.pages m)
      (bad_card_at (places_in old_form d.pages) d.live d.pages old) d.cards same_bad)
      passed.1.0

  same_open : (c : ℕ) → c < d.cards
      → open_at (places_in new_form d.pages) d.live m c ≡ open_at (places_in old_form d.pages) d.live old c
  same_open c real = rw (area_same c real).at_open_flag

  pub closed_new : any_below (open_at (places_in new_form d.pages) d.live m) d.cards ≡ false
  closed_new =
      rw (some_agree (open_at (places_in new_form d.pages) d.live m)
      (open_at (places_in old_form d.pages) d.live old) d.cards same_open)
      passed.1.1.1.0

  -- the same, as the calls read it
  fit : unfit_rack d m ≡ false
  unfolding unfit_rack bad_card open_list steps_of
  fit = fits_new

  pub none_open : any_below (has_open_release d.live (size_of d) m) d.cards ≡ false
  unfolding has_open_release
  none_open = closed_new

  pub runs : Runs d m
  runs = runs_by d m inside fit passed.1.1.0
