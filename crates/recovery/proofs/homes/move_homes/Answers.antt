-- Rests on `Moves`: the pages passed that lost a home have their copies at the new one, and their new homes, and the
-- counts are right.
use mathlib.Core.Path.{◌≡◌, sym, ◌∙◌}
use native.Mathlib.Omega.{arith}
use Rattle.protocol.specs.Recovery.{lost_home, kept_home, copy_to_new_homes}
use Rattle.release.proofs.Callers.{homes_kept}
use Rattle.recovery.proofs.Kept.{rack_kept, rack_card}
use Rattle.recovery.proofs.Turns.{turn_all}
use Rattle.recovery.proofs.homes.Cards.{kept_in, homes_cover}
use Rattle.recovery.proofs.homes.Moves.{moves_none, moves_so_far, chosen_home, new_below, room}
use Rattle.recovery.proofs.homes.Moves.{moves_more, moves_same}
use Rattle.recovery.proofs.homes.move_homes.Goals as goal
use Rattle.recovery.proofs.homes.move_homes.Goals.{then-lost_home, else-lost_home}

pub loop-page-init : goal.loop-page-init
loop-page-init c = moves_none c.requires.rack_in.eight c.count_pages-counts.ensures

pub even_home-new-requires : goal.even_home-new-requires
even_home-new-requires c =
    let pre = c.requires in
    let far = c.loop-page.invariant in
    let a = c.args in
    let enough = homes_cover a.directory a.failed c.loop-page.page pre.homes_of in
    let so_far = moves_so_far far c.loop-page-test.true enough in
    record { cards_bound = rw so_far.cards pre.rack_in.eight; counts_right = far.right }

pub copy_page-requires : goal.copy_page-requires
unfolding kept_home
copy_page-requires c =
    let a = c.args in
    let far = c.loop-page.invariant in
    let below = c.loop-page-test.true in
    let rack = rack_kept c.requires.rack_in far.copied.same in
    let homes = homes_kept c.requires.homes_of far.copied.same in
    let enough = homes_cover a.directory a.failed c.loop-page.page homes in
    let keeps = c.kept_home-kept.ensures in
    let new = rack_card rack (new_below far below enough c.requires.other_live) in
    let keep = kept_in a.directory a.failed c.loop-page.page homes below in
    rw (c.area_size-size.ensures, chosen_home far below enough keeps c.even_home-new.ensures, keeps)
    record { area_in = keep.area; area_in_2 = new.area; page_bound = (omega (arith, rack.few), omega arith) }

pub count_home-requires : goal.count_home-requires
unfolding lost_home kept_home
count_home-requires c =
    let far = c.loop-page.invariant in
    let below = c.loop-page-test.true in
    let homes = c.requires.homes_of in
    let enough = homes_cover c.args.directory c.args.failed c.loop-page.page homes in
    let lost = sym c.lost_home.ensures ∙ c.if-lost_home.true in
    rw (chosen_home far below enough c.kept_home-kept.ensures c.even_home-new.ensures)
    (room far below enough c.requires.other_live c.requires.failed_in.1 lost c.requires.rack_in.eight homes.few)

pub loop-page-preserved : goal.loop-page-preserved
unfolding lost_home kept_home
loop-page-preserved c =
    let said = c.lost_home.ensures in
    let far = c.loop-page.invariant in
    let below = c.loop-page-test.true in
    let homes = c.requires.homes_of in
    let enough = homes_cover c.args.directory c.args.failed c.loop-page.page homes in
    let sized = c.area_size-size.ensures in
    elim c.if-lost_home.branch [
      | then-lost_home w ↦
          let keeps = w.kept_home-kept.ensures in
          let chosen = chosen_home far below enough keeps w.even_home-new.ensures in
          rw (w.memory-is, w.counts-is, w.moved-is)
          (moves_more far below enough c.requires.other_live c.requires.failed_in.1 (sym said ∙ w.if-lost_home.true)
          c.requires.rack_in.eight w.copy_page.auto.memory (rw (sized, chosen, keeps) at w.copy_page.ensures)
          (rw (chosen, keeps) at w.move_home-moved.ensures) (rw chosen at w.count_home.ensures))
      | else-lost_home w ↦
          rw (w.memory-is, w.counts-is, w.moved-is) (moves_same far below enough (sym said ∙ w.if-lost_home.false))
    ]

pub returns : goal.returns
unfolding copy_to_new_homes
returns c =
    let far = c.loop-page.invariant in
    let end : c.loop-page.page ≡ c.args.directory.pages = omega arith in
    record { memory = turn_all far.copied c.loop-page-test.false; homes = rw end at far.homes }

pub count_pages-counts-requires : goal.count_pages-counts-requires
count_pages-counts-requires c = c.requires.rack_in.few

pub shape_of-memory : goal.shape_of-memory
shape_of-memory c = c.loop-page.invariant.copied.same
