-- A card's record on another card: stamp, done mark, even desk, odd desk (document 01, "Cards, pages, memory").
-- Assumes nothing: these are definitions.
use Rattle.std.specs.Prelude.{ℕ, ◌%◌, List, ◌++◌, Bool, true, false, cond, eqb}
use Rattle.memory.specs.Words.{load_run, store_run, zeros}
use Rattle.area.specs.Layout.{desk_size, record_at, record_stamp, record_done, record_desk}
use Rattle.area.specs.Numbers.{number_words, load_number}
use Rattle.area.specs.Releases.{Release, own_release}

-- the release that the record on `holder` tells of card c: its stamp, and the desk by the stamp's evenness
unfoldable pub recorded_release : ℕ → List ℕ → ℕ → ℕ → Release
recorded_release size m holder c =
    record {
      number = load_number size m holder (record_stamp c);
      desk = load_run size m holder (record_desk c (load_number size m holder (record_stamp c))) desk_size;
    }

-- the second phase of the release is under way: "stamp and done mark differ"
unfoldable pub under_way : ℕ → List ℕ → ℕ → ℕ → Bool
under_way size m holder c =
    cond (eqb (load_number size m holder (record_stamp c)) (load_number size m holder (record_done c))) false true

-- "stamp, done mark equal to it, desk by evenness, other desk 0"
unfoldable pub settled_record : Release → List ℕ
settled_record r =
    number_words r.number
    ++ (number_words r.number
    ++ cond (eqb (r.number % 2) 0) (r.desk ++ zeros desk_size) (zeros desk_size ++ r.desk))

unfoldable pub write_record : ℕ → List ℕ → ℕ → ℕ → Release → List ℕ
write_record size m holder c r = store_run size m holder (record_at c) (settled_record r)

-- card c's record, made from its own stamp and desk, on the card that is to hold it, where it is due
unfoldable pub write_own_record : ℕ → (ℕ → Bool) → (ℕ → ℕ) → ℕ → List ℕ → List ℕ
write_own_record size due holder c m = cond (due c) (write_record size m (holder c) c (own_release size m c)) m
