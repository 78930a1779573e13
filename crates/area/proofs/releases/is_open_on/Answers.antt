-- Rests on `is_open`: the card's area is in the memory, and it has a mark.
use mathlib.Core.Path.{◌≡◌}
use native.Mathlib.Omega.{arith}
use borrow.Author.Rules.{rules}
use lib.ListN.{length}
use Rattle.memory.proofs.Index.{area_in}
use Rattle.area.proofs.releases.is_open_on.Goals as goal

pub is_open-requires : goal.is_open-requires
is_open-requires c =
    let marks : length c.args.header.live ≡ 8 = search rules in
    let pre = c.requires in
    let area = area_in _ pre.card_lt_cards pre.memory_of.2 in
    rw c.area_size-size.ensures record {
      pages_start_le_size = (omega arith, area);
      card_in_bounds = omega (arith, pre.memory_of.0);
    }

pub returns : goal.returns
returns c = rw c.area_size-size.ensures at c.is_open.ensures
