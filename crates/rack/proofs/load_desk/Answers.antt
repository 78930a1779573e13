-- Rests on the test of the mark: the words of the card's own desk, or of the desk that its record's stamp picks.
use mathlib.Core.Path.{sym, ◌∙◌}
use native.Mathlib.Omega.{arith}
use Rattle.memory.proofs.Index.{area_in}
use Rattle.area.specs.Releases.{own_release}
use Rattle.protocol.specs.DeskQuestion.{desk_of}
use Rattle.rack.proofs.load_desk.Goals as goal

pub load_run-requires : goal.load_run-requires
load_run-requires c =
    let pre = c.requires in
    rw c.area_size-size.ensures record {
      area_in = area_in _ pre.card_lt_cards.0 pre.memory_of.2;
      buffer_bound = omega (arith, pre.desk_len);
    }

pub returns-then-is_live : goal.returns-then-is_live
unfolding desk_of own_release
returns-then-is_live c =
    let live = sym (rw c.header-header.ensures at c.is_live.ensures) ∙ c.if-is_live.true in
    rw (live, ← c.requires.desk_len, ← c.area_size-size.ensures) c.load_run.ensures

pub load_record-requires : goal.load_record-requires
load_record-requires c =
    let pre = c.requires in
    let below = rw (← c.next_live-holder.ensures) at pre.card_lt_cards.1 in
    rw c.area_size-size.ensures
    record {
      pages_start_le_size = (omega arith, area_in _ below pre.memory_of.2);
      card_bound = (omega (arith, pre.card_lt_cards.0, pre.memory_of.0), pre.desk_len);
    }

pub returns : goal.returns
unfolding desk_of
returns c =
    let dead = sym (rw c.header-header.ensures at c.is_live.ensures) ∙ c.if-is_live.false in
    rw dead (rw (c.next_live-holder.ensures, c.area_size-size.ensures) at c.load_record.ensures.desk)
