-- The theorems of the mover.
use Rattle.std.specs.Prelude.{ℕ, ◌<◌, ◌≡◌, List, [], true, length}
use Rattle.laws.proofs.Prelude.{refl, arith}
use Rattle.directory.specs.declared.Directory.{Directory}
use Rattle.protocol.specs.Result.{accepted}
use Rattle.protocol.proofs.calls.Refused.{refused_by_checks}
use Rattle.mover.specs.Forms.{old_form, new_form}
use Rattle.mover.specs.Areas.{SameArea}
use Rattle.mover.specs.Move.{moved_back, move_in, move_back, move_in_checks, move_back_checks}
use Rattle.mover.specs.Theorems.{MovedBackIsOld, HighWordsZero, SaysWhatOldSaid, LowWordsKept, RefusedMoves}
use Rattle.mover.specs.Theorems.{NumbersKept, NewFormIsLayout}
use Rattle.mover.proofs.Limits.{new_size, new_length}
use Rattle.mover.proofs.Results.{accepted_move}
use Rattle.mover.proofs.Areas.{same_area}
use Rattle.mover.proofs.MovedIn.{leaves, area_same, area_high, inside, none_open, runs}
use Rattle.mover.proofs.Saying.{own_same, open_same, recorded_same, under_way_same}
use Rattle.mover.proofs.Answering.{fetched_same, asked_same}
use Rattle.mover.proofs.Returned.{returned}
use Rattle.mover.proofs.KeptNumbers.{same_numbers}

-- ---- there and back

pub moved_back_is_old : MovedBackIsOld
moved_back_is_old =
    record {
      returned = λ d old new buffer words ok long. rw (leaves d old new ok) (returned d old new words ok buffer long);
    }

-- ---- a move in

pub high_words_zero : HighWordsZero
high_words_zero =
    record { zero_words = λ d old new ok c real. rw (leaves d old new ok) (area_high d old new ok c real) }

pub says_what_old_said : SaysWhatOldSaid
says_what_old_said =
    record {
      moved = λ d old new ok.
          rw (leaves d old new ok)
          (record {
            areas = area_same d old new ok;
            own = own_same d old new ok;
            opened = open_same d old new ok;
            recorded = λ holder k real few. recorded_same d old new ok holder real k few;
            is_under_way = λ holder k real few. under_way_same d old new ok holder real k few;
            limits = inside d old new ok;
            fit = (runs d old new ok).fits.fit;
            running = (runs d old new ok).running;
            none_open = none_open d old new ok;
            fetched = fetched_same d old new ok;
            asked = asked_same d old new ok;
          });
    }

-- ---- a move back

kept_back : (d : Directory) (new old : List ℕ) → accepted (move_back d new old).outcome ≡ true → (c : ℕ) → c < d.cards
    → SameArea new_form old_form d.pages new (move_back d new old).memory c
unfolding move_back
kept_back d new old ok c real =
    let took = accepted_move (move_back_checks d new old) d (moved_back d new) old refl ok in
    let long = new_length (length old) (length new) d.cards d.pages took.0.0 in
    rw took.1 (same_area new_form old_form d.cards d.pages new (omega arith) long c real)

pub low_words_kept : LowWordsKept
low_words_kept = record { kept = kept_back }

pub numbers_kept : NumbersKept
unfolding move_back
numbers_kept =
    record {
      kept = λ d new old ok c real live.
          let took = accepted_move (move_back_checks d new old) d (moved_back d new) old refl ok in
          same_numbers d new (move_back d new old).memory took.0.1.1.1.1.0 c real live
          (kept_back d new old ok c real);
    }

-- ---- refusals

pub refused_moves : RefusedMoves
unfolding move_in move_back
refused_moves =
    record {
      refused_in = λ d old new. refused_by_checks (move_in_checks d old new) 0 _ d new [] refl;
      refused_back = λ d new old. refused_by_checks (move_back_checks d new old) 0 _ d old [] refl;
    }

-- ---- the new form

pub new_form_is_layout : NewFormIsLayout
new_form_is_layout =
    record {
      at_own_desk = refl;
      at_open_flag = refl;
      at_steps_made = refl;
      at_release_number = refl;
      at_release_desk = refl;
      at_record_stamp = λ k. refl;
      at_record_done = λ k. omega arith;
      record_desks = λ k. omega arith;
      list = refl;
      pages = λ p. omega arith;
      size = new_size;
    }
