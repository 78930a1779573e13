-- Rests on its checks: a refused failure leaves the directory, an accepted one marks the card dead.
use mathlib.Core.Path.{refl}
use Rattle.rack.proofs.Results.{failure-refused, failure-accepted}
use Rattle.rack.proofs.fail_card.Goals as goal

pub returns-in-Err : goal.returns-in-Err
returns-in-Err c =
    let a = c.args in
    let reached = rw (c.lend.ensures.header, c.lend.ensures.primary, c.lend.ensures.secondary) at c.failure.ensures in
    rw (failure-refused a.directory a.memory.now a.card reached c.in-Err.is)
    record { answer = refl; directory = refl }

pub returns-in-Ok : goal.returns-in-Ok
returns-in-Ok c =
    let a = c.args in
    let reached = rw (c.lend.ensures.header, c.lend.ensures.primary, c.lend.ensures.secondary) at c.failure.ensures in
    rw (failure-accepted a.directory a.memory.now a.card reached c.in-Ok.is)
    record { answer = refl; directory = rw c.mark_dead.ensures refl }
