-- Rests on its checks: a refused fetch leaves the buffer, an accepted one finds its page and a primary that is a card.
use mathlib.Core.Path.{refl}
use native.Mathlib.Omega.{arith}
use Rattle.memory.proofs.Index.{area_in}
use Rattle.std.proofs.lemmas.Result.{err_from_is_err_and}
use Rattle.directory.specs.Lent.{lent}
use Rattle.protocol.specs.Fetch.{committed_page}
use Rattle.rack.proofs.ValidRack.{valid_rack}
use Rattle.rack.proofs.Results.{fetch_facts, fetch-refused, fetch-accepted}
use Rattle.rack.proofs.fetch_lent.Goals as goal

pub returns-in_err-fetch : goal.returns-in_err-fetch
returns-in_err-fetch c =
    let a = c.args in
    let p = err_from_is_err_and c.from_residual.result c.from_residual.ensures.1 in
    rw (p.1, p.2, fetch-refused (lent a.directory) a.memory.now a.page a.buffer.now c.fetch.ensures c.in_err-fetch.was)
    record { answer = refl; buffer = refl }

pub area_size-size-requires : goal.area_size-size-requires
area_size-size-requires c =
    let a = c.args in
    let d = lent a.directory in
    let m = c.args.memory.now in
    let passed = fetch_facts d m a.page a.buffer.now c.fetch.ensures c.in_ok-fetch.was in
    omega (arith, (valid_rack passed.runs.fits).within.pages_most)

pub bounds-directory-at : goal.bounds-directory-at
bounds-directory-at c =
    let a = c.args in
    let d = lent a.directory in
    let m = c.args.memory.now in
    let passed = fetch_facts d m a.page a.buffer.now c.fetch.ensures c.in_ok-fetch.was in
    let few = (valid_rack passed.runs.fits).within.pages_most in
    omega (arith, passed.page_below)

pub overflow_cast-home : goal.overflow_cast-home
overflow_cast-home c =
    let a = c.args in
    let d = lent a.directory in
    let m = c.args.memory.now in
    let passed = fetch_facts d m a.page a.buffer.now c.fetch.ensures c.in_ok-fetch.was in
    let fit = valid_rack passed.runs.fits in
    omega (arith, fit.primary_below a.page passed.page_below, fit.within.cards_most)

pub load_committed-requires : goal.load_committed-requires
load_committed-requires c =
    let a = c.args in
    let d = lent a.directory in
    let m = c.args.memory.now in
    let passed = fetch_facts d m a.page a.buffer.now c.fetch.ensures c.in_ok-fetch.was in
    let fit = valid_rack passed.runs.fits in
    let primary = area_in _ (fit.primary_below a.page passed.page_below) fit.within.whole in
    let few = fit.within.pages_most in
    rw c.area_size-size.ensures record {
      area_in = omega arith;
      page_bound = (omega arith, omega arith);
      buffer_len = passed.room_is;
    }

pub returns : goal.returns
unfolding committed_page
returns c =
    let a = c.args in
    let d = lent a.directory in
    let words = rw c.area_size-size.ensures at c.load_committed.ensures in
    rw (fetch-accepted d a.memory.now a.page a.buffer.now c.fetch.ensures c.in_ok-fetch.was)
    record { answer = refl; buffer = words }
