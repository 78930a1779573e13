-- Rests on `Closed`: the releases of the cards passed are closed, those of the others stand as they did.
use Rattle.protocol.specs.Recovery.{close_releases}
use Rattle.release.proofs.Callers.{homes_kept}
use Rattle.recovery.proofs.Kept.{rack_kept, rack_card}
use Rattle.recovery.proofs.Turns.{turn_all}
use Rattle.recovery.proofs.closing.Releases.{closed_none, closed_good, closed_more, backup_in}
use Rattle.recovery.proofs.closing.close_releases.Goals as goal

pub run_to_close-requires : goal.run_to_close-requires
run_to_close-requires c =
    let pre = c.requires in
    let a = c.args in
    let far = c.loop-card.invariant in
    let below = c.loop-card-test.true in
    let same = c.loop-card.invariant.turned.same in
    let rack = rack_kept pre.rack_in same in
    let backup = backup_in a.directory a.failed c.loop-card.card rack pre.some_live pre.failed_bound in
    rw (c.mark_live-before.ensures, c.lend.ensures.header, c.lend.ensures.primary, c.lend.ensures.secondary) record {
      homes_of = homes_kept pre.homes_of same;
      card_in = rack_card rack below;
      backup_in = backup;
      good_release = closed_good pre.releases_in far below;
    }

pub loop-card-preserved : goal.loop-card-preserved
loop-card-preserved c =
    let pre = c.requires in
    closed_more pre.releases_in c.loop-card.invariant c.loop-card-test.true pre.rack_in c.run_to_close.auto.memory
    (rw (c.mark_live-before.ensures, c.lend.ensures.header, c.lend.ensures.primary, c.lend.ensures.secondary) at c.run_to_close.ensures)

pub returns : goal.returns
unfolding close_releases
returns c = turn_all c.loop-card.invariant.turned c.loop-card-test.false

pub loop-card-init : goal.loop-card-init
loop-card-init c = closed_none
