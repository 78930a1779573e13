-- A loop that makes a change of the memory for 0, 1, .. and n - 1 in turn: how far it is.
use Rattle.std.specs.Prelude.{ℕ, zero, suc, ◌+◌, ◌≤◌, ◌<◌, ◌≡◌, List, length}
use Rattle.laws.proofs.Prelude.{refl, sym, ◌∙◌, arith}
use Rattle.laws.specs.Search.{in_turn}
use Rattle.laws.proofs.Search.{in_turn_none, in_turn_more}

-- changes that agree, made in turn
pub in_turn_same : {A : Type 0} (change change' : ℕ → A → A) → ((i : ℕ) (a : A) → change i a ≡ change' i a)
    → (n : ℕ) (a : A) → in_turn change n a ≡ in_turn change' n a
unfolding in_turn
in_turn_same change change' agree zero a = refl
in_turn_same change change' agree (suc n) a = rw (in_turn_same change change' agree n a) (agree n _)

-- the change is made for the numbers below i
pub record Turned (change : ℕ → List ℕ → List ℕ) (n : ℕ) (before : List ℕ) (i : ℕ) (m : List ℕ) : Type 0 where
  pub upto : i ≤ n
  pub same : length m ≡ length before
  pub made : m ≡ in_turn change i before

module _ {change : ℕ → List ℕ → List ℕ} {n : ℕ} {before : List ℕ} where
  pub turn_none : Turned change n before 0 before
  turn_none = record { upto = omega arith; same = refl; made = sym (in_turn_none change before) }

  pub turn_more : {i : ℕ} {m next : List ℕ} → Turned change n before i m → i < n → length next ≡ length m
      → next ≡ change i m → Turned change n before (i + 1) next
  turn_more {i} {m} {next} turned below same made =
      record {
        upto = omega arith;
        same = same ∙ turned.same;
        made = made ∙ rw (in_turn_more change i before, turned.made);
      }

  pub turn_all : {i : ℕ} {m : List ℕ} → Turned change n before i m → n ≤ i → m ≡ in_turn change n before
  turn_all {i} {m} turned past =
      let end : i ≡ n = omega arith in
      rw end at turned.made
