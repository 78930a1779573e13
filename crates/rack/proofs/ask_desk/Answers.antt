-- Rests on its checks: a refused question gives zeros, an accepted one finds a card and one that is live after it.
use mathlib.Core.Path.{refl}
use borrow.Author.Rules.{rules}
use Rattle.memory.specs.Words.{zeros}
use Rattle.checks.proofs.Passing.{memory_of}
use Rattle.rack.proofs.ValidRack.{valid_rack}
use Rattle.rack.proofs.Results.{desk_facts, desk-refused, desk-accepted}
use Rattle.rack.proofs.ask_desk.Goals as goal

pub load_desk-requires : goal.load_desk-requires
load_desk-requires c =
    let a = c.args in
    let reached = rw (c.lend.ensures.header, c.lend.ensures.primary, c.lend.ensures.secondary) at c.desk_question.ensures in
    let passed = desk_facts a.directory a.memory.now a.card reached c.in-Ok.is in
    let fit = valid_rack passed.0.fits in
    record {
      memory_of = memory_of fit.within;
      card_lt_cards = (passed.1, fit.next_below a.card);
      desk_len = search rules;
    }

pub returns-in-Ok : goal.returns-in-Ok
returns-in-Ok c =
    let a = c.args in
    let reached = rw (c.lend.ensures.header, c.lend.ensures.primary, c.lend.ensures.secondary) at c.desk_question.ensures in
    rw (desk-accepted a.directory a.memory.now a.card reached c.in-Ok.is)
    record { answer = refl; directory = refl; desk = c.load_desk.ensures }

pub returns-in-Err : goal.returns-in-Err
unfolding zeros
returns-in-Err c =
    let a = c.args in
    let reached = rw (c.lend.ensures.header, c.lend.ensures.primary, c.lend.ensures.secondary) at c.desk_question.ensures in
    rw (desk-refused a.directory a.memory.now a.card reached c.in-Err.is)
    record { answer = refl; directory = refl; desk = refl }
