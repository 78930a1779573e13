-- Checks in order: an accepted call passed all of them, a refused one has the number of the first that it failed and
-- changes nothing.
use Rattle.std.specs.Prelude.{ℕ, ◌≡◌, List, [], ◌∷◌, Bool, true, false, cond, not, ◌&&◌, eqb}
use Rattle.laws.proofs.Prelude.{refl, sym, ◌∙◌, subst, true≢false, not-true, eq-eqb}
use Rattle.laws.proofs.Bools.{and_first, and_second}
use Rattle.answer.specs.declared.Outcome.{Outcome}
use Rattle.answer.specs.Outcome.{refused_at, given, refused}
use Rattle.directory.specs.declared.Directory.{Directory}
use Rattle.protocol.specs.Checks.{Check, first_refusal}
use Rattle.protocol.specs.Result.{Result, accepted, result_of}
use Rattle.protocol.specs.Demand1.{is_among}

-- ---- checks that all passed

-- every check refuses by a number other than 0
abbrev pub numbered : List Check → Bool
numbered [] = true
numbered (c ∷ cs) = not (eqb c.number 0) && numbered cs

abbrev pub Passed : List Check → Type 0
Passed [] = Unit {0}
Passed (c ∷ cs) = (c.refuses ≡ false) × Passed cs

pub all_passed : (cs : List Check) (value : ℕ) → numbered cs ≡ true → accepted (first_refusal cs value) ≡ true
    → Passed cs
unfolding first_refusal
all_passed [] value real ok = tt
all_passed (c ∷ cs) value real ok =
    go c.refuses refl ok (all_passed cs value (and_second (not (eqb c.number 0)) (numbered cs) real))
  where
    go : (refuses : Bool) → c.refuses ≡ refuses
        → accepted (cond refuses (record { number = c.number; value = c.place }) (first_refusal cs value)) ≡ true
        → (accepted (first_refusal cs value) ≡ true → Passed cs) → (c.refuses ≡ false) × Passed cs
    go true is ok rest =
        absurd (true≢false (sym ok
        ∙ not-true (eqb c.number 0) (and_first (not (eqb c.number 0)) (numbered cs) real)))
    go false is ok rest = (is, rest ok)

-- what an accepted outcome gives
pub given_value : (cs : List Check) (value : ℕ) → Passed cs
    → first_refusal cs value ≡ record { number = 0; value = value }
unfolding first_refusal
given_value [] value passed = refl
given_value (c ∷ cs) value passed = rw passed.0 (given_value cs value passed.1)

-- ---- a call's result, accepted or refused

module _ (o : Outcome) (done : Result) (d : Directory) (m words : List ℕ) (same : done.outcome ≡ o) where
  pub outcome_of_lem : (result_of o done d m words).outcome ≡ o
  outcome_of_lem = go (accepted o)
    where
      go : (ok : Bool) → (cond ok done (record { outcome = o; directory = d; memory = m; words = words })).outcome ≡ o
      go true = same
      go false = refl

  pub when_accepted : accepted (result_of o done d m words).outcome ≡ true
      → (accepted o ≡ true) × (result_of o done d m words ≡ done)
  when_accepted ok = let yes' : accepted o ≡ true = rw outcome_of_lem at ok in (yes', rw yes')

  pub when_refused : accepted (result_of o done d m words).outcome ≡ false
      → result_of o done d m words ≡ record { outcome = o; directory = d; memory = m; words = words }
  when_refused refused = let no' : accepted o ≡ false = rw outcome_of_lem at refused in rw no'

-- what holds of what is left when all checks pass holds of an accepted call's result
pub by_passed : (P : Result → Type 0) (cs : List Check) (value : ℕ) (done : Result) (d : Directory) (m words : List ℕ)
    → done.outcome ≡ first_refusal cs value → numbered cs ≡ true → (Passed cs → P done)
    → accepted (result_of (first_refusal cs value) done d m words).outcome ≡ true
    → P (result_of (first_refusal cs value) done d m words)
by_passed P cs value done d m words same real good ok =
    let taken = when_accepted (first_refusal cs value) done d m words same ok in
    subst P (sym taken.1) (good (all_passed cs value real taken.0))

-- ---- the number of a refusal

abbrev pub numbers_of : List Check → List ℕ
numbers_of [] = []
numbers_of (c ∷ cs) = c.number ∷ numbers_of cs

-- the first check that refuses is one of them
pub among : (cs : List Check) (value : ℕ) → accepted (first_refusal cs value) ≡ false
    → is_among (numbers_of cs) (first_refusal cs value).number ≡ true
unfolding first_refusal is_among
among [] value refused = absurd (true≢false refused)
among (c ∷ cs) value refused = go c.refuses refused (among cs value)
  where
    one_more : (same : Bool) (rest : Bool) → rest ≡ true → cond same true rest ≡ true
    one_more true rest is = refl
    one_more false rest is = is

    go : (refuses : Bool)
        → accepted (cond refuses (refused_at c.number c.place) (first_refusal cs value)) ≡ false
        → (accepted (first_refusal cs value) ≡ false → is_among (numbers_of cs) (first_refusal cs value).number ≡ true)
        → is_among (c.number ∷ numbers_of cs)
        (cond refuses (refused_at c.number c.place) (first_refusal cs value)).number
        ≡ true
    go true refused rest = rw (eq-eqb c.number c.number refl)
    go false refused rest = one_more (eqb c.number (first_refusal cs value).number)
        (is_among (numbers_of cs) (first_refusal cs value).number) (rest refused)

-- ---- checks that agree up to the first that refuses

pub data SameChecks : List Check → List Check → Type 0 where
  none : SameChecks [] []
  more : {c x : Check} {cs xs : List Check} → c ≡ x → (x.refuses ≡ false → SameChecks cs xs)
      → SameChecks (c ∷ cs) (x ∷ xs)

pub first_agree : {cs xs : List Check} {value value' : ℕ} → SameChecks cs xs → (Passed xs → value ≡ value')
    → first_refusal cs value ≡ first_refusal xs value'
unfolding first_refusal
first_agree none given = rw (given tt)
first_agree {value = value} {value' = value'} (more {x = x} {cs = cs} {xs = xs} same rest) given =
    rw same (go x.refuses refl (λ passes. first_agree (rest passes) (λ p. given (passes, p))))
  where
    go : (refuses : Bool) → x.refuses ≡ refuses
        → (x.refuses ≡ false → first_refusal cs value ≡ first_refusal xs value')
        → cond refuses (refused_at x.number x.place) (first_refusal cs value)
        ≡ cond refuses (refused_at x.number x.place) (first_refusal xs value')
    go true is rest = refl
    go false is rest = rest is
