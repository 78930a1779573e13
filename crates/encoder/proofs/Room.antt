-- What becomes of a diff by the room that there is for it, in numbers: of a refusal, and of a number alone.
use Rattle.std.specs.Prelude.{ℕ, ◌≡◌, ◌<◌, ◌≤◌, Bool, true, false, cond, ltb, Ok, Err, Result}
use Rattle.laws.proofs.Prelude.{refl, le-ltb, lt-ltb}
use Rattle.answer.specs.declared.Refusal.{Refusal}
use Rattle.answer.specs.declared.Refusal.TheVariants.{WrongBuffer}
use Rattle.answer.specs.Outcome.{given, refused, wrong_buffer}
use Rattle.answer.specs.Refusal.{number_of, place_of, outcome_of}
use Rattle.diff.specs.Format.{most_words}
use Rattle.diff.specs.Room.{room_for}
use Rattle.encoder.specs.Room.{room_answer, outcome_by_number}

module _ (too_long : Refusal) (words room : ℕ) {result : Result ℕ Refusal}
    (is : result ≡ room_answer too_long WrongBuffer words room) where
  -- of a refusal that names no place
  pub room_told : place_of too_long ≡ 0 → outcome_of result ≡ room_for (number_of too_long) words room
  room_told none = rw is (go (ltb most_words words) (ltb room words))
    where
      go : (over short : Bool)
          → outcome_of (cond over (Err too_long) (cond short (Err WrongBuffer) (Ok words)))
          ≡ cond over (refused (number_of too_long)) (cond short (refused wrong_buffer) (given words))
      go true short = rw none refl
      go false true = refl
      go false false = refl

  -- of any refusal, where the list is not over 512 words
  pub room_fits : words ≤ most_words → outcome_of result ≡ room_for (number_of too_long) words room
  room_fits within = rw (is, le-ltb most_words words within) (go (ltb room words))
    where
      go : (short : Bool)
          → outcome_of (cond short (Err WrongBuffer) (Ok words))
          ≡ cond short (refused wrong_buffer) (given words)
      go true = refl
      go false = refl

  -- a list over 512 words comes to the caller's refusal
  pub room_long : most_words < words → result ≡ Err too_long
  room_long over = rw (is, lt-ltb most_words words over) refl

-- where the refusals are numbers
pub room_numbered : (number words room : ℕ) {result : Result ℕ ℕ} → result ≡ room_answer number wrong_buffer words room
    → outcome_by_number result ≡ room_for number words room
room_numbered number words room is = rw is (go (ltb most_words words) (ltb room words))
  where
    go : (over short : Bool)
        → outcome_by_number (cond over (Err number) (cond short (Err wrong_buffer) (Ok words)))
        ≡ cond over (refused number) (cond short (refused wrong_buffer) (given words))
    go true short = refl
    go false true = refl
    go false false = refl
