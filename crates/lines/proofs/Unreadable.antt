-- Choices whose test is known, and a line that is no command: it stays so.
use Rattle.std.specs.Prelude.{ℕ, ◌≤◌, ◌<◌, ◌≡◌, List, [], ◌∷◌, Bool, true, false, cond, ltb, None}
use Rattle.laws.proofs.Prelude.{refl, ltb-true, ltb-false}
use Rattle.lines.specs.Line.{byte_read, line_read}
use Rattle.lines.specs.Command.{command_of}

-- a choice whose test is known
pub first : {A : Type 0} (test : Bool) (x y : A) → test ≡ true → cond test x y ≡ x
first test x y e = rw e

pub second : {A : Type 0} (test : Bool) (x y : A) → test ≡ false → cond test x y ≡ y
second test x y e = rw e

pub below_or_not : {A : Type 0} (a b : ℕ) → (a < b → A) → (b ≤ a → A) → A
below_or_not {A} a b below not-below = go (ltb a b) refl
  where
    go : (test : Bool) → ltb a b ≡ test → A
    go true e = below (ltb-true a b e)
    go false e = not-below (ltb-false a b e)

-- ---- a line that is no command stays so

pub dead : (rest : List ℕ) → command_of (line_read None rest) ≡ None
unfolding line_read byte_read command_of
dead [] = refl
dead (b ∷ bs) = dead bs
