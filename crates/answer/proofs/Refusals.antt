-- Refusals in numbers.
use native.Mathlib.Omega.{arith}
use Rattle.std.specs.Prelude.{Ok, Err, Result, ◌≡◌, ◌≢◌}
use Rattle.answer.specs.declared.Refusal.{Refusal}
use Rattle.answer.specs.declared.Outcome.{Outcome}
use Rattle.answer.specs.Outcome.{given}
use Rattle.answer.specs.Refusal.{number_of, told, checked}

-- no refusal has the number of an accepted call
pub numbered : (r : Refusal) → number_of r ≢ 0
numbered r = grind arith

-- checks that come to an outcome passed where its number is 0, and else refuse
pub passed_zero : {first : Result (Unit {0}) Refusal} {u : Unit {0}} {o : Outcome} → checked first ≡ o → first ≡ Ok u
    → o.number ≡ 0
passed_zero reached is = grind arith

pub refused_told : {first : Result (Unit {0}) Refusal} {e : Refusal} {o : Outcome} → checked first ≡ o → first ≡ Err e
    → told e ≡ o
refused_told reached is = grind arith

pub refused_nonzero : {first : Result (Unit {0}) Refusal} {e : Refusal} {o : Outcome} → checked first ≡ o
    → first ≡ Err e → o.number ≢ 0
refused_nonzero reached is = grind arith

pub passed_given : {first : Result (Unit {0}) Refusal} {u : Unit {0}} {o : Outcome} → checked first ≡ o → first ≡ Ok u
    → given 0 ≡ o
passed_given reached is = grind arith
