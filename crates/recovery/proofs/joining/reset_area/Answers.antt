-- Rests on `number_then`: own stamp and desk are one run.
use native.Mathlib.Omega.{arith}
use borrow.Author.Rules.{rules}
use Rattle.memory.proofs.Index.{area_in}
use Rattle.area.proofs.NumberWords.{number_then}
use Rattle.protocol.specs.Join.{reset_area}
use Rattle.recovery.proofs.Kept.{next_in}
use Rattle.recovery.proofs.joining.reset_area.Goals as goal

pub load_record-number-requires : goal.load_record-number-requires
load_record-number-requires c =
    let pre = c.requires in
    rw (c.area_size-size.ensures, c.next_live-holder.ensures)
    record {
      pages_start_le_size = next_in pre.rack_in pre.some_live c.args.card;
      card_bound = (omega arith, search rules);
    }

pub clear_run-requires : goal.clear_run-requires
clear_run-requires c =
    let pre = c.requires in
    rw c.area_size-size.ensures record {
      area_in = area_in _ pre.card_lt_cards pre.rack_in.whole;
      n_bound = omega arith;
    }

pub store_number-requires : goal.store_number-requires
store_number-requires c =
    let pre = c.requires in
    let area = area_in _ pre.card_lt_cards pre.rack_in.whole in
    rw c.area_size-size.ensures record { area_in = omega arith; number_size_bound = omega arith }

pub store_run-requires : goal.store_run-requires
store_run-requires c =
    let pre = c.requires in
    let area = area_in _ pre.card_lt_cards pre.rack_in.whole in
    rw c.area_size-size.ensures record { area_in = omega arith; words_bound = omega arith }

pub returns : goal.returns
unfolding reset_area
returns c =
    let says = c.load_record-number.ensures in
    rw (c.store_run.ensures, c.store_number.ensures, c.clear_run.ensures, says.number, says.desk)
    (rw (c.next_live-holder.ensures, c.area_size-size.ensures) (number_then _ _ _ _ _ _))
