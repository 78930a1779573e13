-- Worked examples: what definitions give, beside what their rules say. An example is computed, or is a claim about
-- every value, which no computation shows.
-- Assumes nothing: these are definitions.
use Rattle.std.specs.Prelude.{ℕ, suc, ◌≡◌, List, [], ◌∷◌, ◌++◌, Bool, true, false, cond, ◌&&◌, eqb}

pub data Example : Type 1 where
  -- the words that a definition gives, and those that its rule says
  computed : (given expected : List ℕ) → Example
  claimed : Type 0 → Example

abbrev pub Holds : Example → Type 0
Holds (computed given expected) = given ≡ expected
Holds (claimed C) = C

unfoldable pub AllHold : List Example → Type 0
AllHold [] = Unit {0}
AllHold (e ∷ es) = Holds e × AllHold es

-- ---- the test over the computed ones

unfoldable pub same_words : List ℕ → List ℕ → Bool
same_words [] [] = true
same_words [] (w ∷ ws) = false
same_words (v ∷ vs) [] = false
same_words (v ∷ vs) (w ∷ ws) = eqb v w && same_words vs ws

-- where in the list, counted from i, a computed example does not hold
unfoldable pub failures_from : ℕ → List Example → List ℕ
failures_from i [] = []
failures_from i (computed given expected ∷ es) =
    cond (same_words given expected) [] (i ∷ []) ++ failures_from (suc i) es
failures_from i (claimed C ∷ es) = failures_from (suc i) es

abbrev pub failures : List Example → List ℕ
failures es = failures_from 0 es

-- ---- the others

unfoldable pub Claims : List Example → Type 0
Claims [] = Unit {0}
Claims (computed given expected ∷ es) = Claims es
Claims (claimed C ∷ es) = C × Claims es
