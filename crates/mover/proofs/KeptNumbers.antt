-- A move back that passes refusal 20 keeps the stamps and done marks of live cards whole.
use Rattle.std.specs.Prelude.{ℕ, ◌+◌, ◌*◌, ◌<◌, ◌≡◌, List, true, false}
use Rattle.laws.proofs.Prelude.{◌∙◌, arith, ltb-false}
use Rattle.laws.proofs.Bools.{and_rest, neither}
use Rattle.laws.proofs.Search.{none_below}
use Rattle.directory.specs.declared.Directory.{Directory}
use Rattle.directory.specs.Directory.{live_at, is_live}
use Rattle.area.specs.Prelude.{load, number_at, load_number, own_stamp, record_stamp, record_done, record_count}
use Rattle.protocol.specs.Release.{size_of}
use Rattle.mover.specs.Forms.{old_form, new_form}
use Rattle.mover.specs.Areas.{SameArea, SameNumbers}
use Rattle.mover.specs.Move.{above_one_word, high_record, high_area, high_card, too_high}

-- a number of one word is its low word
one_word : (size : ℕ) (m : List ℕ) (c o : ℕ) → above_one_word (load_number size m c o) ≡ false
    → load size m c o ≡ load_number size m c o
unfolding number_at
one_word size m c o low = omega (arith, ltb-false 4294967295 (load size m c o + 4294967296 * load size m c (o + 1)) low)

module _ (d : Directory) (new old : List ℕ) (none_high : too_high d new ≡ false) (c : ℕ) (real : c < d.cards)
    (live : is_live d c ≡ true) (same : SameArea new_form old_form d.pages new old c) where
  low_area : high_area (size_of d) new c ≡ false
  low_area =
      and_rest (live_at d.live c) _ live
      (none_below (high_card d.live (size_of d) new) d.cards none_high c real)

  low_own : above_one_word (load_number (size_of d) new c own_stamp) ≡ false
  unfolding high_area
  low_own = (neither (above_one_word (load_number (size_of d) new c own_stamp)) _ low_area).0

  module _ (k : ℕ) (few : k < record_count) where
    low_record : (above_one_word (load_number (size_of d) new c (record_stamp k)) ≡ false)
        × (above_one_word (load_number (size_of d) new c (record_done k)) ≡ false)
    unfolding high_area high_record
    low_record =
        neither (above_one_word (load_number (size_of d) new c (record_stamp k))) _
        (none_below (high_record (size_of d) new c) record_count
        (neither (above_one_word (load_number (size_of d) new c own_stamp)) _ low_area).1 k few)

  pub same_numbers : SameNumbers d.pages new old c
  same_numbers =
      record {
        at_own_stamp = same.at_own_stamp ∙ one_word (size_of d) new c own_stamp low_own;
        at_record_stamp = λ k few.
            same.at_record_stamp k few ∙ one_word (size_of d) new c (record_stamp k) (low_record k few).0;
        at_record_done = λ k few.
            same.at_record_done k few ∙ one_word (size_of d) new c (record_done k) (low_record k few).1;
      }
