-- What becomes of a diff by its length and by the room that there is for it.
use Rattle.std.specs.Prelude.{ℕ, ◌≤◌, ◌<◌, ◌≡◌, ◌≢◌, List, Bool, true, false, cond, length, ltb}
use Rattle.laws.proofs.Prelude.{refl, sym, arith, ltb-false, lt-ltb, le-ltb, eq-eqb, ne_eqb}
use Rattle.laws.proofs.Lists.{sets_front}
use lib.Seq.{sets}
use Rattle.answer.specs.declared.Outcome.{Outcome}
use Rattle.answer.specs.Outcome.{given, refused, wrong_buffer}
use Rattle.diff.specs.Format.{most_words}
use Rattle.diff.specs.Room.{room_for, written_by}

module _ (tooLong words room : ℕ) where
  pub over_limit : most_words < words → room_for tooLong words room ≡ refused tooLong
  over_limit over = rw (lt-ltb most_words words over)

  pub no_room : words ≤ most_words → room < words → room_for tooLong words room ≡ refused wrong_buffer
  no_room within short = rw (le-ltb most_words words within, lt-ltb room words short)

  pub has_room : words ≤ most_words → words ≤ room → room_for tooLong words room ≡ given words
  has_room within fits = rw (le-ltb most_words words within, le-ltb room words fits)

  pub within_limit : 0 < tooLong → (room_for tooLong words room).number ≡ 0 → words ≤ most_words
  within_limit some e = go (ltb most_words words) refl e
    where
      go : (over : Bool) → ltb most_words words ≡ over
          → (cond over (refused tooLong) (cond (ltb room words) (refused wrong_buffer) (given words))).number ≡ 0
          → words ≤ most_words
      go true over e = absurd (omega arith)
      go false within e = ltb-false most_words words within

  -- an accepted diff has room
  pub within_room : 0 < tooLong → (room_for tooLong words room).number ≡ 0 → words ≤ room
  within_room some e = go (ltb room words) refl (rw (le-ltb most_words words (within_limit some e)) at e)
    where
      go : (short : Bool) → ltb room words ≡ short → (cond short (refused wrong_buffer) (given words)).number ≡ 0
          → words ≤ room
      go true short e = absurd (omega arith)
      go false fits e = ltb-false room words fits

  pub room_given : 0 < tooLong → (room_for tooLong words room).number ≡ 0 → room_for tooLong words room ≡ given words
  room_given some e = has_room (within_limit some e) (within_room some e)

-- ---- the buffer, by what making the diff came to

module _ (outcome : Outcome) (diff buffer : List ℕ) where
  pub written_none : outcome.number ≢ 0 → written_by outcome diff buffer ≡ buffer
  written_none refusal = rw (ne_eqb outcome.number 0 refusal)

  pub written_all : outcome.number ≡ 0 → length diff ≤ length buffer → written_by outcome diff buffer ≡ sets buffer 0 diff
  written_all accepted fits = rw (eq-eqb outcome.number 0 accepted) (sym (sets_front diff buffer fits))
