-- A settled record written says what the release does, with nothing under way.
use Rattle.std.specs.Prelude.{ℕ, ◌+◌, ◌≤◌, ◌<◌, ◌≡◌, List, length, get_or}
use Rattle.laws.proofs.Prelude.{refl, ◌∙◌, arith}
use Rattle.area.specs.Prelude.{AreaIn, load, number_size, desk_size, record_size, desk_in_record, record_at, record_stamp}
use Rattle.area.specs.Prelude.{record_done, pages_start, settled_record, write_record, Release}
use Rattle.area.proofs.Prelude.{number_is, settled_stamp, settled_done, settled_desk, record_word}
use Rattle.protocol.specs.Book.{none}
use Rattle.protocol.proofs.records.Recorded.{Recorded}

module _ (size : ℕ) (m : List ℕ) (holder c : ℕ) (r : Release) (long : pages_start ≤ size) (few : c < 8)
    (eight : length r.desk ≡ desk_size) (area : AreaIn (length m) size holder) where
  -- a word of the record, by its place in it
  word_at : (offset i : ℕ) → offset ≡ record_at c + i → i < record_size
      → load size (write_record size m holder c r) holder offset ≡ get_or (settled_record r) i 0
  word_at offset i at within = rw at (record_word size m holder c r long few eight area i within)

  pub settled_recorded : Recorded c none r (load size (write_record size m holder c r) holder)
  settled_recorded =
      record {
        stamped =
            number_is _ (record_stamp c) r.number
            (λ j within. word_at _ j refl (omega arith) ∙ settled_stamp r eight j within);
        desked = λ j within. word_at _ (desk_in_record r.number + j) (omega arith) (omega arith)
            ∙ settled_desk r eight j within;
        done =
            number_is _ (record_done c) r.number
            (λ j within. word_at _ (number_size + j) (omega arith) (omega arith) ∙ settled_done r eight j within);
        parts = tt;
      }
