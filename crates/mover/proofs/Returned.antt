-- Going back after going in: refusal 20 does not meet a memory that was moved in, and every old word is returned.
use Rattle.std.specs.Prelude.{ℕ, ◌+◌, ◌*◌, ◌<◌, ◌≡◌, List, [], true, false, ◌&&◌, Bool, length, get_or}
use Rattle.laws.proofs.Prelude.{refl, sym, ap, ◌∙◌, arith, le-ltb}
use lib.Seq.{take_all}
use Rattle.laws.proofs.Search.{none_pass}
use Rattle.answer.specs.Outcome.{given}
use Rattle.directory.specs.declared.Directory.{Directory}
use Rattle.directory.specs.Directory.{live_at}
use Rattle.area.specs.Prelude.{load, own_stamp, record_count}
use Rattle.protocol.specs.Release.{size_of}
use Rattle.protocol.specs.Result.{accepted}
use Rattle.protocol.proofs.checks.Outcome.{Passed}
use Rattle.mover.specs.Forms.{old_form, area_size_in, record_in, record_done_in}
use Rattle.mover.specs.Fields.{rack_fields, fields_size}
use Rattle.mover.specs.Move.{above_one_word, high_record, high_area, high_card, too_high, moved_in, moved_back, move_in, move_back}
use Rattle.mover.specs.Move.{move_back_checks}
use Rattle.mover.specs.Theorems.{WordsOf32Bits}
use Rattle.mover.proofs.FieldWords.{rack_fields_lem}
use Rattle.mover.proofs.Results.{passed_move}
use Rattle.mover.proofs.Back.{there_and_back}
use Rattle.mover.proofs.MovedIn.{passed, old_words, new_words, fits_new, closed_new}
use Rattle.mover.proofs.Saying.{own_stamp_same, stamp_same, done_same}

module _ (d : Directory) (old new : List ℕ) (words : WordsOf32Bits old)
    (ok : accepted (move_in d old new).outcome ≡ true) where
  abbrev m : List ℕ
  m = moved_in d old

  low : (number c o : ℕ) → number ≡ load (area_size_in old_form d.pages) old c o → above_one_word number ≡ false
  unfolding load
  low number c o is =
      let i : ℕ = c * area_size_in old_form d.pages + o in
      rw is (le-ltb 4294967295 (get_or old i 0) (omega (arith, words i)))

  low_record : (c : ℕ) → c < d.cards → (k : ℕ) → k < record_count → high_record (size_of d) m c k ≡ false
  unfolding high_record
  low_record c real k few =
      rw (
        low _ c (record_in old_form k) (stamp_same d old new ok c real k few),
        low _ c (record_done_in old_form k) (done_same d old new ok c real k few),
      )

  low_area : (c : ℕ) → c < d.cards → high_area (size_of d) m c ≡ false
  unfolding high_area
  low_area c real =
      rw (
        low _ c own_stamp (own_stamp_same d old new ok c real),
        none_pass (high_record (size_of d) m c) record_count (low_record c real),
      )

  none_high : too_high d m ≡ false
  none_high =
      none_pass (high_card d.live (size_of d) m) d.cards (λ c real. either (live_at d.live c) (low_area c real))
    where
      either : (up : Bool) {rest : Bool} → rest ≡ false → up && rest ≡ false
      either true is = is
      either false is = refl

  -- ---- there and back

  pub returned : (buffer : List ℕ) → length buffer ≡ length old
      → move_back d m buffer ≡ record { outcome = given 0; directory = d; memory = old; words = [] }
  unfolding move_back
  returned buffer long =
      let all : Passed (move_back_checks d m buffer) = (
        rw (long, new_words d old new ok) (passed d old new ok).0,
        (fits_new d old new ok, ((passed d old new ok).1.1.0, (closed_new d old new ok, (none_high, tt)))),
      ) in
      passed_move (move_back_checks d m buffer) d (moved_back d m) buffer all
      ∙ ap (λ words. record { outcome = given 0; directory = d; memory = words; words = [] }) back
    where
      whole : fields_size old_form (rack_fields d.cards d.pages) ≡ length old
      whole = rack_fields_lem old_form d.cards d.pages ∙ sym (old_words d old new ok)

      back : moved_back d m ≡ old
      back =
          there_and_back (rack_fields d.cards d.pages) old (omega (arith, whole))
          ∙ take_all (fields_size old_form (rack_fields d.cards d.pages)) old (omega (arith, whole))
