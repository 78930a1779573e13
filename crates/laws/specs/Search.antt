-- Numbers below a bound, as cards and pages are: the lowest that passes a test, how many do, and a change
-- made for each.
-- Assumes nothing: these are definitions.
use Rattle.std.specs.Prelude.{ℕ, zero, suc, ◌+◌, ◌<◌, ◌≡◌, Bool, cond, ltb, Option, None, Some}

-- the lowest of the n numbers from i on that passes; i + n if none does
unfoldable pub lowest_from : (ℕ → Bool) → ℕ → ℕ → ℕ
lowest_from test i zero = i
lowest_from test i (suc n) = cond (test i) i (lowest_from test (suc i) n)

-- the lowest number below n that passes; n if none does
abbrev pub lowest : (ℕ → Bool) → ℕ → ℕ
lowest test n = lowest_from test 0 n

-- whether some number below n passes
abbrev pub any_below : (ℕ → Bool) → ℕ → Bool
any_below test n = ltb (lowest test n) n

-- the lowest number below n that passes, if any does
abbrev pub lowest_below : (ℕ → Bool) → ℕ → Option ℕ
lowest_below test n = cond (any_below test n) (Some (lowest test n)) None

-- how many numbers below n pass
unfoldable pub count_below : (ℕ → Bool) → ℕ → ℕ
count_below test zero = 0
count_below test (suc n) = count_below test n + cond (test n) 1 0

-- a change made for 0, 1, .. and n - 1 in turn
unfoldable pub in_turn : {A : Type 0} → (ℕ → A → A) → ℕ → A → A
in_turn change zero a = a
in_turn change (suc n) a = change n (in_turn change n a)

-- what calls answer at the numbers below n is what the test says of them
abbrev pub AgreesBelow : (ℕ → Bool → Type 0) → (ℕ → Bool) → ℕ → Type 0
AgreesBelow answers test n = (i : ℕ) → i < n → (answer : Bool) → answers i answer → answer ≡ test i
