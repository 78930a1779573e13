-- What fetches and desk questions answer on a memory moved in.
use Rattle.std.specs.Prelude.{ℕ, ◌+◌, ◌<◌, ◌≡◌, List, true, false, length}
use Rattle.laws.proofs.Prelude.{ap, arith, lt-leb}
use Rattle.laws.specs.Search.{any_below}
use Rattle.laws.proofs.Search.{none_pass, none_below}
use Rattle.answer.specs.Outcome.{given}
use Rattle.directory.specs.declared.Directory.{Directory}
use Rattle.directory.specs.Directory.{primary_of, next_live_of}
use Rattle.memory.proofs.Index.{area_in}
use Rattle.area.specs.Prelude.{AreaIn, has_open_release, record_count, page_size, stored_page_size, committed_half}
use Rattle.protocol.specs.Release.{size_of}
use Rattle.protocol.specs.Result.{accepted}
use Rattle.protocol.specs.Calls.{fetch, fetch_checks, desk_question, desk_checks}
use Rattle.protocol.specs.Fetch.{in_motion, committed_page}
use Rattle.protocol.specs.DeskQuestion.{desk_of}
use Rattle.protocol.proofs.checks.Outcome.{Passed, given_value}
use Rattle.protocol.proofs.checks.Limits.{within_limits}
use Rattle.rack.proofs.Results.{result_is}
use Rattle.rack.proofs.ValidRack.{valid_rack}
use Rattle.mover.specs.Forms.{old_form, new_form, area_size_in, page_in}
use Rattle.mover.specs.Areas.{words_in, old_desk}
use Rattle.mover.specs.Move.{moved_in, move_in}
use Rattle.mover.proofs.MovedIn.{passed, old_words, inside, area_same, runs, none_open}
use Rattle.mover.proofs.Saying.{part_same, own_same, recorded_same}

module _ (d : Directory) (old new : List ℕ) (ok : accepted (move_in d old new).outcome ≡ true) where
  abbrev m : List ℕ
  m = moved_in d old

  abbrev size : ℕ
  size = area_size_in old_form d.pages

  -- no page is in motion
  still : (p : ℕ) → any_below (in_motion d.live d.pages m p) d.cards ≡ false
  unfolding in_motion
  still p =
      none_pass (in_motion d.live d.pages m p) d.cards
      (λ c real. rw (none_below (has_open_release d.live (size_of d) m) d.cards (none_open d old new ok) c real))

  page_same : (p : ℕ) → p < d.pages
      → committed_page d m p ≡ words_in old_form d.pages old (primary_of d p) (page_in old_form p + committed_half) page_size
  unfolding committed_page
  page_same p few =
      let home = (valid_rack (runs d old new ok).fits).primary_below p few in
      let here : AreaIn (length m) (size_of d) (primary_of d p) =
      area_in _ home (within_limits _ _ _ (inside d old new ok)).whole in
      let there : AreaIn (length old) size (primary_of d p) = area_in _ home (old_words d old new ok) in
      part_same (size_of d) size m old (primary_of d p) (page_in new_form p) (page_in old_form p) stored_page_size here there
      (omega arith) (omega arith) ((area_same d old new ok (primary_of d p) home).page p few) committed_half page_size
      (omega arith)

  pub fetched_same : (p : ℕ) (buffer : List ℕ) → p < d.pages → length buffer ≡ page_size
      → fetch d m p buffer
      ≡ result_is (given 0) d m
      (words_in old_form d.pages old (primary_of d p) (page_in old_form p + committed_half) page_size)
  unfolding fetch
  fetched_same p buffer few right =
      let checks = fetch_checks d m p (length buffer) in
      let idle = (passed d old new ok).1.1.0 in
      let all : Passed checks = (
        inside d old new ok,
        ((runs d old new ok).fits.fit, (idle, (lt-leb d.pages p few, (still p, (rw right, tt))))),
      ) in
      rw (given_value checks 0 all) (ap (result_is (given 0) d m) (page_same p few))

  desk_is : (c : ℕ) → c < d.cards → desk_of d m c ≡ old_desk d old c
  unfolding desk_of
  desk_is c real =
      let valid = valid_rack (runs d old new ok).fits in
      let few : c < record_count = omega (arith, valid.within.cards_most) in
      rw (own_same d old new ok c real, recorded_same d old new ok (next_live_of d c) (valid.next_below c) c few)

  pub asked_same : (c : ℕ) → c < d.cards → desk_question d m c ≡ result_is (given 0) d m (old_desk d old c)
  unfolding desk_question
  asked_same c real =
      let idle = (passed d old new ok).1.1.0 in
      let all : Passed (desk_checks d m c) =
      (inside d old new ok, ((runs d old new ok).fits.fit, (idle, (lt-leb d.cards c real, tt)))) in
      rw (given_value (desk_checks d m c) 0 all) (ap (result_is (given 0) d m) (desk_is c real))
