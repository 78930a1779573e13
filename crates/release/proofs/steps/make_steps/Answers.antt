-- Rests on `labels_listed`: `list_labeled_prices` writes a table of the release's prices, and on `listed_counts`: it counts them.
use borrow.Author.Rules.{rules}
use native.Mathlib.Omega.{arith}
use lib.ListN.{replicate}
use Rattle.area.specs.Layout.{list_size}
use Rattle.protocol.proofs.release.Writes.{no_price}
use Rattle.reader.specs.Labels.{labeled}
use Rattle.release.proofs.Left.{listed_counts, all_left}
use Rattle.release.proofs.Prices.{labels_listed}
use Rattle.release.proofs.steps.make_steps.Goals as goal

pub open_list-list-requires : goal.open_list-list-requires
open_list-list-requires c =
    rw c.area_size-size.ensures (omega arith, c.requires.card_in.area)

pub steps_left-requires : goal.steps_left-requires
steps_left-requires c =
    let a = c.args in
    let pre = c.requires in
    let size = c.area_size-size.ensures in
    let count = rw c.open_list-list.ensures.result_value at c.list_labeled_prices-k.ensures.count in
    let counted = listed_counts a.header.pages _ a.memory.now a.card size pre.good_release count in
    rw size record {
      pages_start_le_size = (omega arith, pre.card_in.area);
      card_bound = (omega (arith, counted.under), counted.few);
    }

pub make_listed-requires : goal.make_listed-requires
make_listed-requires c =
    let a = c.args in
    let pre = c.requires in
    let size = c.area_size-size.ensures in
    let stored = rw c.open_list-list.ensures.result_value at c.list_labeled_prices-k.ensures in
    let counted = listed_counts a.header.pages _ a.memory.now a.card size pre.good_release stored.count in
    let left = rw size at c.steps_left.ensures in
    let least = c.min-steps.ensures in
    let table =
    labels_listed a.header.pages _ a.memory.now a.card size pre.homes_in.few (replicate list_size (labeled no_price))
    (search rules) stored.prices (rw size pre.card_in.area) (omega arith)
    in
    let some = all_left {left = c.min-steps.result} counted (omega (arith, least, left, counted.prices)) in
    record {
      homes_of = pre.homes_in;
      card_in = pre.card_in;
      backup_in = pre.backup_in;
      steps_left = some;
      listed = table;
    }

pub returns : goal.returns
returns c =
    let a = c.args in
    let size = c.area_size-size.ensures in
    let count = rw c.open_list-list.ensures.result_value at c.list_labeled_prices-k.ensures.count in
    let counted = listed_counts a.header.pages _ a.memory.now a.card size c.requires.good_release count in
    let left = rw (size, counted.prices) at c.steps_left.ensures in
    record { made = rw left at c.min-steps.ensures; memory = c.make_listed.ensures }
