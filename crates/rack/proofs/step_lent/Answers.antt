-- Rests on its checks: an accepted step finds homes that are cards and a release that reads well.
use Prim.Native.Nat.{◌<◌}
use mathlib.Core.Path.{◌≡◌, refl}
use borrow.Author.Rules.{rules}
use lib.ListN.{length}
use Rattle.std.proofs.lemmas.Result.{err_from_is_err_and}
use Rattle.directory.specs.Lent.{lent}
use Rattle.protocol.specs.Release.{size_of}
use Rattle.release.proofs.Callers.{card_in}
use Rattle.rack.proofs.ValidRack.{homes_in, valid_rack}
use Rattle.rack.proofs.Results.{step_facts, step-refused, step-accepted}
use Rattle.rack.proofs.step_lent.Goals as goal

pub returns-in_err-step : goal.returns-in_err-step
returns-in_err-step c =
    let a = c.args in
    let p = err_from_is_err_and c.from_residual.result c.from_residual.ensures.1 in
    rw (p.1, p.2, step-refused (lent a.directory) a.memory.now a.card c.step.ensures c.in_err-step.was)
    record { answer = refl; memory = refl }

pub step_release-requires : goal.step_release-requires
step_release-requires c =
    let next = c.backup-backup in
    let a = c.args in
    let d = lent a.directory in
    let m = c.args.memory.now in
    let marks : length d.live ≡ 8 = search rules in
    let passed = step_facts d m a.card c.step.ensures c.in_ok-step.was in
    let fit = valid_rack passed.runs.fits in
    let within = fit.within in
    let below : next.result < d.cards = rw next.ensures (fit.next_below a.card) in
    let own = card_in d.live (size_of d) marks within.cards_most within.whole passed.below in
    let backup = card_in d.live (size_of d) marks within.cards_most within.whole below in
    let full = a.directory.homes_full in
    let homes = homes_in d m fit marks full.0 full.1 in
    record {
      homes_in = homes;
      card_in = own;
      backup_in = backup;
      good_release = fit.good a.card passed.below passed.is_open;
    }

pub returns : goal.returns
returns c =
    let a = c.args in
    let d = lent a.directory in
    rw (step-accepted d a.memory.now a.card c.step.ensures c.in_ok-step.was)
    record { answer = refl; memory = rw c.backup-backup.ensures at c.step_release.ensures }
