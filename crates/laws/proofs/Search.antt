-- Laws of searches and changes over numbers below a bound.
use Rattle.std.specs.Prelude.{ℕ, zero, suc, ◌+◌, ◌-◌, ◌<◌, ◌≤◌, ◌≡◌, ◌≢◌, Bool, true, false, cond, ltb}
use Rattle.std.specs.Prelude.{None, Some}
use Rattle.std.specs.Option.{unwrap_or}
use Rattle.std.proofs.lemmas.Option.{cond_some, none-some}
use Rattle.laws.proofs.Prelude.{refl, sym, ◌∙◌, true≢false, ℕ_discrete, dec_lt, arith, ltb-true, ltb-false, lt-ltb}
use Rattle.laws.proofs.Prelude.{le-ltb, ap}
use native.Mathlib.Nat.{sub-zero, add-zero}
use native.Mathlib.Numerals.{add-one}
use Rattle.laws.specs.Search.{lowest_from, lowest, any_below, lowest_below, count_below, in_turn}

-- ---- one turn of a search from i on, below n

module _ (test : ℕ → Bool) (i n : ℕ) where
  pub lowest_end : n ≤ i → lowest_from test i (n - i) ≡ i
  unfolding lowest_from
  lowest_end past = let none : n - i ≡ 0 = omega arith in rw none

  pub lowest_hit : i < n → test i ≡ true → lowest_from test i (n - i) ≡ i
  unfolding lowest_from
  lowest_hit below pass = let one : n - i ≡ suc (n - (i + 1)) = omega arith in rw (one, pass)

  pub lowest_skip : i < n → test i ≡ false → lowest_from test (i + 1) (n - (i + 1)) ≡ lowest_from test i (n - i)
  unfolding lowest_from
  lowest_skip below fail = let one : n - i ≡ suc (n - (i + 1)) = omega arith in rw (one, fail, add-one)

-- ---- tests that agree below a bound

module _ (test test' : ℕ → Bool) where
  pub lowest_from_agree : (i n : ℕ) → ((j : ℕ) → j < i + n → test j ≡ test' j)
      → lowest_from test i n ≡ lowest_from test' i n
  unfolding lowest_from
  lowest_from_agree i zero agree = refl
  lowest_from_agree i (suc n) agree =
      rw (agree i (omega arith), lowest_from_agree (suc i) n (λ j below. agree j (omega arith)))

  module _ (n : ℕ) (agree : (i : ℕ) → i < n → test i ≡ test' i) where
    pub lowest_agree : lowest test n ≡ lowest test' n
    lowest_agree = lowest_from_agree 0 n (λ j below. agree j (omega arith))

    pub some_agree : any_below test n ≡ any_below test' n
    some_agree = ap (λ (found : ℕ). ltb found n) lowest_agree

    pub lowest_below_agree : lowest_below test n ≡ lowest_below test' n
    lowest_below_agree = rw lowest_agree

  pub count_agree : (n : ℕ) → ((i : ℕ) → i < n → test i ≡ test' i) → count_below test n ≡ count_below test' n
  unfolding count_below
  count_agree zero agree = refl
  count_agree (suc n) agree = rw (agree n (omega arith), count_agree n (λ i below. agree i (omega arith)))

-- tests that agree but at i, which only the second passes
pub count_one_more : (test test' : ℕ → Bool) (n i : ℕ) → i < n → test i ≡ false → test' i ≡ true
    → ((j : ℕ) → j ≢ i → test' j ≡ test j) → count_below test' n ≡ count_below test n + 1
unfolding count_below
count_one_more test test' zero i below fail pass agree = absurd (omega arith)
count_one_more test test' (suc n) i below fail pass agree =
    elim (ℕ_discrete n i) [
      | yes same ↦
          rw (same, fail, pass) (omega (arith, count_agree test' test i (λ j h. agree j (omega arith))))
      | no other ↦
          rw (agree n other) (omega (arith, count_one_more test test' n i (omega arith) fail pass agree))
    ]

-- tests that agree everywhere
pub lowest_same : (test test' : ℕ → Bool) → ((i : ℕ) → test i ≡ test' i) → (i n : ℕ)
    → lowest_from test i n ≡ lowest_from test' i n
lowest_same test test' agree i n = lowest_from_agree test test' i n (λ j _. agree j)

-- ---- where a search of n numbers from i on stops

pub record Stops (test : ℕ → Bool) (i n stop : ℕ) : Type 0 where
  pub from : i ≤ stop
  pub upto : stop ≤ i + n
  pub hit : stop < i + n → test stop ≡ true
  pub missed : (j : ℕ) → i ≤ j → j < stop → test j ≡ false

-- one number more, in front
stops_more : (test : ℕ → Bool) (i n stop : ℕ) (pass : Bool) → test i ≡ pass → Stops test (suc i) n stop
    → Stops test i (suc n) (cond pass i stop)
stops_more test i n stop true pass rest =
    record { from = omega arith; upto = omega arith; hit = λ _. pass; missed = λ j a b. absurd (omega arith) }
stops_more test i n stop false fail rest =
    record {
      from = omega arith;
      upto = omega arith;
      hit = λ h. rest.hit (omega arith);
      missed = λ j a b. elim (ℕ_discrete i j) [
        | yes same ↦ rw (sym same) fail
        | no other ↦ rest.missed j (omega arith) b
      ];
    }

pub lowest_stops : (test : ℕ → Bool) (i n : ℕ) → Stops test i n (lowest_from test i n)
unfolding lowest_from
lowest_stops test i zero =
    record {
      from = omega arith;
      upto = omega arith;
      hit = λ h. absurd (omega arith);
      missed = λ j a b. absurd (omega arith);
    }
lowest_stops test i (suc n) = stops_more test i n _ _ refl (lowest_stops test (suc i) n)

-- nothing passes from a number on
pub lowest_all_fail : (test : ℕ → Bool) (i n : ℕ) → ((j : ℕ) → i ≤ j → test j ≡ false) → lowest_from test i n ≡ i + n
lowest_all_fail test i n fail =
    let stops = lowest_stops test i n in
    elim (dec_lt (lowest_from test i n) (i + n)) [
      | yes below ↦ absurd (true≢false (sym (stops.hit below) ∙ fail _ stops.from))
      | no past ↦ omega arith
    ]

-- ---- whether some number below n passes

module _ (test : ℕ → Bool) (n : ℕ) where
  pub none_below : any_below test n ≡ false → (i : ℕ) → i < n → test i ≡ false
  none_below none i below =
      let stops = lowest_stops test 0 n in
      stops.missed i (omega arith) (omega (arith, ltb-false))

  pub none_pass : ((i : ℕ) → i < n → test i ≡ false) → any_below test n ≡ false
  none_pass fail =
      let stops = lowest_stops test 0 n in
      elim (dec_lt (lowest test n) n) [
        | yes found ↦ absurd (true≢false (sym (stops.hit (omega arith)) ∙ fail (lowest test n) found))
        | no past ↦ le-ltb (lowest test n) n (omega arith)
      ]

  pub some_below : (i : ℕ) → i < n → test i ≡ true → any_below test n ≡ true
  some_below i below pass =
      let stops = lowest_stops test 0 n in
      elim (dec_lt (lowest test n) n) [
        | yes found ↦ lt-ltb (lowest test n) n found
        | no past ↦ absurd (true≢false (sym pass ∙ stops.missed i (omega arith) (omega arith)))
      ]

-- ---- a loop that searches: it has passed the numbers below i, and finds from i on what the whole search finds

pub record Passed (test : ℕ → Bool) (n i : ℕ) : Type 0 where
  pub upto : i ≤ n
  pub rest : lowest_from test i (n - i) ≡ lowest test n

pub passed_none : {test : ℕ → Bool} {n : ℕ} → Passed test n 0
passed_none = record { upto = omega arith; rest = rw sub-zero }

module _ {test : ℕ → Bool} {n i : ℕ} (far : Passed test n i) where
  pub passed_more : i < n → test i ≡ false → Passed test n (i + 1)
  passed_more below fail = record { upto = omega arith; rest = lowest_skip test i n below fail ∙ far.rest }

  pub lowest-found : i < n → test i ≡ true → i ≡ lowest test n
  lowest-found below pass = sym (lowest_hit test i n below pass) ∙ far.rest

  pub lowest_none : n ≤ i → n ≡ lowest test n
  lowest_none past = omega (arith, far.rest, lowest_end test i n past)

  pub some_found : i < n → test i ≡ true → true ≡ any_below test n
  some_found below pass = sym (some_below test n i below pass)

  pub none_found : n ≤ i → false ≡ any_below test n
  none_found past = sym (le-ltb (lowest test n) n (omega (arith, lowest_none past)))

  pub lowest_below_found : i < n → test i ≡ true → Some i ≡ lowest_below test n
  lowest_below_found below pass = rw (← some_found below pass, ← lowest-found below pass)

  pub lowest_below_none : n ≤ i → None ≡ lowest_below test n
  lowest_below_none past = rw (← none_found past)

-- ---- the lowest number below n that passes, if any does

pub record IsLowest (test : ℕ → Bool) (n i : ℕ) : Type 0 where
  pub is : i ≡ lowest test n
  pub below : i < n
  pub passes : test i ≡ true
  pub missed : (j : ℕ) → j < i → test j ≡ false

module _ (test : ℕ → Bool) (n : ℕ) where
  pub lowest_below_at : (i : ℕ) → i ≡ lowest test n → i < n → Some i ≡ lowest_below test n
  lowest_below_at i is below = rw (lt-ltb (lowest test n) n (omega arith)) (ap Some is)

  pub lowest_below_past : n ≤ lowest test n → None ≡ lowest_below test n
  lowest_below_past past = rw (le-ltb (lowest test n) n past)

  pub lowest_below_some : (i : ℕ) → lowest_below test n ≡ Some i → IsLowest test n i
  lowest_below_some i found =
      let parts = cond_some (any_below test n) (lowest test n) i found in
      let stops = lowest_stops test 0 n in
      let same : i ≡ lowest test n = sym parts.1 in
      let below = ltb-true (lowest test n) n parts.0 in
      record {
        is = same;
        below = omega arith;
        passes = rw same (stops.hit (omega arith));
        missed = λ j before. stops.missed j (omega arith) (omega arith);
      }

  pub lowest_below_nothing : lowest_below test n ≡ None → any_below test n ≡ false
  lowest_below_nothing missed = go (any_below test n) missed
    where
      go : (some : Bool) → cond some (Some (lowest test n)) None ≡ None → some ≡ false
      go true found = absurd (none-some _ (sym found))
      go false e = refl

  -- the lowest, or n if none passes
  pub lowest_below_or : unwrap_or (lowest_below test n) n ≡ lowest test n
  lowest_below_or = go (any_below test n) refl
    where
      go : (some : Bool) → any_below test n ≡ some → unwrap_or (cond some (Some (lowest test n)) None) n ≡ lowest test n
      go true found = refl
      go false missed =
          let stops = lowest_stops test 0 n in
          omega (arith, ltb-false (lowest test n) n missed)

-- ---- how many pass

module _ (test : ℕ → Bool) (n : ℕ) where
  count_more : count_below test (n + 1) ≡ count_below test n + cond (test n) 1 0
  unfolding count_below
  count_more = rw add-one

  count_bound : count_below test n ≤ n
  unfolding count_below
  count_bound = go n
    where
      one : (b : Bool) → cond b 1 0 ≤ 1
      one true = omega arith
      one false = omega arith

      go : (n : ℕ) → count_below test n ≤ n
      go zero = omega arith
      go (suc n) = omega (arith, go n, one (test n))

count_hit : (test : ℕ → Bool) (n : ℕ) → test n ≡ true → count_below test (n + 1) ≡ count_below test n + 1
count_hit test n pass = rw pass at (count_more test n)

count_miss : (test : ℕ → Bool) (n : ℕ) → test n ≡ false → count_below test (n + 1) ≡ count_below test n
count_miss test n fail = count_more test n ∙ rw fail (add-zero _)

-- where as many pass as there are, each does
pub all_count : (test : ℕ → Bool) (n : ℕ) → count_below test n ≡ n → (i : ℕ) → i < n → test i ≡ true
unfolding count_below
all_count test zero all i below = absurd (omega arith)
all_count test (suc n) all i below =
    last (test n) refl all (λ rest other. all_count test n rest i (omega arith))
  where
    last : (pass : Bool) → test n ≡ pass → count_below test n + cond pass 1 0 ≡ suc n
        → (count_below test n ≡ n → i ≢ n → test i ≡ true) → test i ≡ true
    last true pass some rest =
        elim (ℕ_discrete i n) [
          | yes same ↦ rw same pass
          | no other ↦ rest (omega arith) other
        ]
    last false fail some rest = absurd (omega (arith, count_bound test n))

none_count : (test : ℕ → Bool) (n : ℕ) → ((i : ℕ) → i < n → test i ≡ false) → count_below test n ≡ 0
unfolding count_below
none_count test zero fail = refl
none_count test (suc n) fail = rw (fail n (omega arith), none_count test n (λ i below. fail i (omega arith)))

one_counts : (test : ℕ → Bool) (n i : ℕ) → i < n → test i ≡ true → 0 < count_below test n
unfolding count_below
one_counts test zero i below pass = absurd (omega arith)
one_counts test (suc n) i below pass =
    elim (ℕ_discrete i n) [
      | yes same ↦ rw (rw same at pass) (omega arith)
      | no other ↦ omega (arith, one_counts test n i (omega arith) pass)
    ]

-- whether some number passes, by how many do
pub some_count : (test : ℕ → Bool) (n : ℕ) → ltb 0 (count_below test n) ≡ any_below test n
some_count test n = go (any_below test n) refl
  where
    go : (some : Bool) → any_below test n ≡ some → ltb 0 (count_below test n) ≡ some
    go true found =
        let below = ltb-true (lowest test n) n found in
        let stops = lowest_stops test 0 n in
        lt-ltb 0 (count_below test n) (one_counts test n (lowest test n) below (stops.hit (omega arith)))
    go false missed = le-ltb 0 (count_below test n) (omega (arith, none_count test n (none_below test n missed)))

-- ---- as many as are counted

-- the highest number below n that passes, with the others below it
pub record Highest (test : ℕ → Bool) (k n : ℕ) : Type 0 where
  pub index : ℕ
  pub below : index < n
  pub passes : test index ≡ true
  pub others : k ≤ count_below test index

pub highest : (test : ℕ → Bool) (k n : ℕ) → suc k ≤ count_below test n → Highest test k n
unfolding count_below
highest test k zero many = absurd (omega arith)
highest test k (suc n) many = go (test n) refl many (highest test k n)
  where
    go : (here : Bool) → test n ≡ here → suc k ≤ count_below test n + cond here 1 0
        → (suc k ≤ count_below test n → Highest test k n) → Highest test k (suc n)
    go true here many rest = record { index = n; below = omega arith; passes = here; others = omega arith }
    go false elsewhere many rest =
        let h = rest (omega arith) in
        record { index = h.index; below = omega (arith, h.below); passes = h.passes; others = h.others }

-- ---- a loop that counts: it has passed the numbers below i, and so many passed the test

pub record Counted (test : ℕ → Bool) (n i count : ℕ) : Type 0 where
  pub upto : i ≤ n
  pub is : count ≡ count_below test i

pub counted_none : {test : ℕ → Bool} {n : ℕ} → Counted test n 0 0
unfolding count_below
counted_none = record { upto = omega arith; is = refl }

module _ {test : ℕ → Bool} {n i count : ℕ} (far : Counted test n i count) where
  pub counted_few : count ≤ i
  counted_few = omega (arith, far.is, count_bound test i)

  pub counted_hit : i < n → test i ≡ true → Counted test n (i + 1) (count + 1)
  counted_hit below pass = record { upto = omega arith; is = omega (arith, far.is, count_hit test i pass) }

  pub counted_miss : i < n → test i ≡ false → Counted test n (i + 1) count
  counted_miss below fail = record { upto = omega arith; is = far.is ∙ sym (count_miss test i fail) }

  pub counted_all : n ≤ i → count ≡ count_below test n
  counted_all past = let end : i ≡ n = omega (arith, far.upto) in rw end at far.is

-- ---- a change in turn

pub in_turn_none : {A : Type 0} (change : ℕ → A → A) (a : A) → in_turn change 0 a ≡ a
unfolding in_turn
in_turn_none change a = refl

pub in_turn_more : {A : Type 0} (change : ℕ → A → A) (n : ℕ) (a : A)
    → in_turn change (n + 1) a ≡ change n (in_turn change n a)
unfolding in_turn
in_turn_more change n a = rw add-one

-- ---- changes that agree below a bound, made in turn

pub in_turn_agree : {A : Type 0} (change change' : ℕ → A → A) (n : ℕ)
    → ((i : ℕ) → i < n → (a : A) → change i a ≡ change' i a) → (a : A)
    → in_turn change n a ≡ in_turn change' n a
unfolding in_turn
in_turn_agree change change' zero agree a = refl
in_turn_agree change change' (suc n) agree a =
    rw (in_turn_agree change change' n (λ i below. agree i (omega arith)) a) (agree n (omega arith) _)

-- ---- what the loops of `numbers` rest on

pub ruleset search_steps = (passed_more, lowest_below_found, lowest_below_none)

pub ruleset count_steps = (counted_hit, counted_miss)
