-- Choices by a test: a property of both outcomes, and what a conjunction says.
use Rattle.std.specs.Prelude.{◌≡◌, Bool, true, false, cond, ◌&&◌, ◌||◌}
use Rattle.laws.proofs.Prelude.{refl, false≢true, true≢false}

-- what holds of either outcome, each under its test, holds of the choice
pub by_cond : {A : Type 0} (P : A → Type 0) (test : Bool) (x y : A) → (test ≡ true → P x) → (test ≡ false → P y)
    → P (cond test x y)
by_cond P true x y on-true on-false = on-true refl
by_cond P false x y on-true on-false = on-false refl

pub and_first : (a b : Bool) → a && b ≡ true → a ≡ true
and_first true b e = refl
and_first false b e = e

pub and_second : (a b : Bool) → a && b ≡ true → b ≡ true
and_second true b e = e
and_second false b e = absurd (false≢true e)

pub and_both : (a b : Bool) → a ≡ true → b ≡ true → a && b ≡ true
and_both a b first second = rw (first, second)

pub and_rest : (a b : Bool) → a ≡ true → a && b ≡ false → b ≡ false
and_rest a b first e = rw first at e

pub neither : (a b : Bool) → a || b ≡ false → (a ≡ false) × (b ≡ false)
neither true b e = absurd (true≢false e)
neither false b e = (refl, e)

-- two conjunctions, where the second parts agree if the first part holds
pub and_agrees : (a b x y : Bool) → a ≡ b → (a ≡ true → x ≡ y) → (a && x) ≡ (b && y)
and_agrees true b x y same agree = rw (← same) (agree refl)
and_agrees false b x y same agree = rw (← same)
