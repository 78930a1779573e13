-- Rests on `all_made`: what the first step's checks pass, the steps after it pass too, up to the close.
use Prim.Native.Nat.{ℕ, ◌<◌}
use mathlib.Core.Path.{◌≡◌, refl}
use native.Mathlib.Omega.{arith}
use borrow.Author.Rules.{rules}
use lib.ListN.{length}
use Rattle.protocol.specs.Release.{size_of}
use Rattle.release.specs.Stepping.{CardIn}
use Rattle.release.proofs.Callers.{card_in}
use Rattle.rack.proofs.ValidRack.{homes_in, valid_rack}
use Rattle.rack.proofs.Results.{step_facts}
use Rattle.batch.specs.Steps.{steps_from}
use Rattle.batch.proofs.Stepping.{first-refused, all_made}
use Rattle.batch.proofs.steps.Goals as goal

pub returns-then-count-eq0 : goal.returns-then-count-eq0
unfolding steps_from
returns-then-count-eq0 c = rw c.if-count-eq0.true record {
  made = refl;
  answer = refl;
  directory = refl;
  memory = refl;
}

pub returns-in-Err : goal.returns-in-Err
returns-in-Err c =
    let a = c.args in
    let lent = c.lend.ensures in
    let reached = rw (lent.header, lent.primary, lent.secondary) at c.step.ensures in
    rw (first-refused a.directory a.card a.memory.now a.count reached c.in-Err.is c.if-count-eq0.false)
    record { made = refl; answer = refl; directory = refl; memory = refl }

pub make_steps-made-requires : goal.make_steps-made-requires
make_steps-made-requires c =
    let a = c.args in
    let d = c.args.directory in
    let m = c.args.memory.now in
    let marks : length d.live ≡ 8 = search rules in
    let primaries : length d.primary ≡ 64 = search rules in
    let secondaries : length d.secondary ≡ 64 = search rules in
    let lent = c.lend.ensures in
    let reached = rw (lent.header, lent.primary, lent.secondary) at c.step.ensures in
    let passed = step_facts d m a.card reached c.in-Ok.is in
    let fit = valid_rack passed.runs.fits in
    let card-at : (x : ℕ) → x < d.cards → CardIn d.live (length m) (size_of d) x
    = λ x. card_in d.live (size_of d) marks fit.within.cards_most fit.within.whole
    in
    record {
      homes_of = homes_in d m fit marks primaries secondaries;
      card_in = card-at _ passed.below;
      backup_in = card-at _ (fit.next_below a.card);
      good_release = fit.good a.card passed.below passed.is_open;
    }

pub returns-in-Ok : goal.returns-in-Ok
returns-in-Ok c =
    let a = c.args in
    let d = c.args.directory in
    let m = c.args.memory.now in
    let lent = c.lend.ensures in
    let reached = rw (lent.header, lent.primary, lent.secondary) at c.step.ensures in
    let passed = step_facts d m a.card reached c.in-Ok.is in
    let some : 0 < a.count = omega (arith, c.if-count-eq0.false) in
    let made = c.make_steps-made.ensures in
    rw (all_made d a.card m a.count passed some made.made) record {
      made = refl;
      answer = c.answer_to.ensures;
      directory = refl;
      memory = made.memory;
    }
