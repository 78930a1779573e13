-- Rests on its checks: an accepted call finds primary homes that are cards, and shows each page that is not in motion.
use mathlib.Core.Path.{refl}
use native.Mathlib.Omega.{arith}
use Rattle.directory.specs.Lent.{lent}
use Rattle.checks.proofs.Passing.{memory_of}
use Rattle.rack.proofs.ValidRack.{valid_rack}
use Rattle.batch.proofs.Fetching.{all_refused, all_facts, all_accepted}
use Rattle.batch.proofs.fetch_all_lent.Goals as goal

pub returns-in-Err : goal.returns-in-Err
returns-in-Err c =
    let a = c.args in
    rw (all_refused (lent a.directory) a.memory.now a.buffer.now c.check_fetch.ensures c.in-Err.is)
    record { answer = refl; pages = refl }

pub mark_in_motion-requires : goal.mark_in_motion-requires
mark_in_motion-requires c =
    let a = c.args in
    let passed = all_facts (lent a.directory) a.memory.now a.buffer.now c.check_fetch.ensures c.in-Ok.is in
    memory_of (valid_rack passed.runs.fits).within

pub fetch_pages-requires : goal.fetch_pages-requires
fetch_pages-requires c =
    let a = c.args in
    let passed = all_facts (lent a.directory) a.memory.now a.buffer.now c.check_fetch.ensures c.in-Ok.is in
    let fit = valid_rack passed.runs.fits in
    let few = fit.within.pages_most in
    record {
      memory_of = memory_of fit.within;
      primaries_in = record { long = omega (arith, a.directory.homes_full.0); below = fit.primary_below };
      buffer_len = passed.room_is;
    }

pub returns-in-Ok : goal.returns-in-Ok
returns-in-Ok c =
    let a = c.args in
    rw (all_accepted (lent a.directory) a.memory.now a.buffer.now c.check_fetch.ensures c.in-Ok.is)
    record { answer = refl; pages = rw c.mark_in_motion.ensures at c.fetch_pages.ensures }
