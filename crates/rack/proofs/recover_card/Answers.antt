-- Rests on its checks: an accepted recovery finds two live cards, homes that are cards and releases that read well.
use mathlib.Core.Path.{◌≡◌, refl, ap}
use native.Mathlib.Omega.{arith}
use borrow.Author.Rules.{rules}
use lib.ListN.{length}
use Rattle.answer.specs.Outcome.{given}
use Rattle.memory.specs.Words.{zeros}
use Rattle.rack.proofs.ValidRack.{valid_rack, rack_in, homes_in}
use Rattle.rack.proofs.Results.{recovery_facts, recovery-refused, recovery-accepted}
use Rattle.rack.proofs.recover_card.Goals as goal

pub returns-in-Err : goal.returns-in-Err
unfolding zeros
returns-in-Err c =
    let a = c.args in
    let reached = rw (c.lend.ensures.header, c.lend.ensures.primary, c.lend.ensures.secondary) at c.recovery.ensures in
    rw (recovery-refused a.directory a.memory.now reached c.in-Err.is)
    record { answer = refl; directory = refl; desk = refl; memory = refl }

pub recover_memory-recovered-requires : goal.recover_memory-recovered-requires
recover_memory-recovered-requires c =
    let d = c.args.directory in
    let m = c.args.memory.now in
    let arrays = c.well_formed.1.0.1.1.1.1 in
    let marks : length d.live ≡ 8 = search rules in
    let primaries : length d.primary ≡ 64 = search rules in
    let secondaries : length d.secondary ≡ 64 = search rules in
    let reached = rw (c.lend.ensures.header, c.lend.ensures.primary, c.lend.ensures.secondary) at c.recovery.ensures in
    let passed = recovery_facts d m reached c.in-Ok.is in
    let fit = valid_rack passed.0 in
    let failed = c.awaited_card-failed.ensures in
    let dead = rw (← failed) at (fit.awaited passed.1) in
    let below = dead.0 in
    let eight = fit.within.cards_most in
    let homes = homes_in d m fit marks primaries secondaries in
    record {
      rack_in = rack_in d m fit marks;
      homes_of = homes;
      other_live = fit.beside;
      failed_in = (omega arith, dead.1);
      desk_len = search rules;
      releases_in = record { good = fit.good };
    }

pub returns-in-Ok : goal.returns-in-Ok
returns-in-Ok c =
    let a = c.args in
    let d = c.args.directory in
    let reached = rw (c.lend.ensures.header, c.lend.ensures.primary, c.lend.ensures.secondary) at c.recovery.ensures in
    let failed = c.awaited_card-failed.ensures in
    let done = rw failed at c.recover_memory-recovered.ensures in
    rw (recovery-accepted d a.memory.now reached c.in-Ok.is)
    record { answer = ap given done.number; directory = done.directory; desk = done.desk; memory = done.memory }
