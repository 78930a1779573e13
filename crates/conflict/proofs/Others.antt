-- Where no other card has a release open, none shares a word.
use Rattle.std.specs.Prelude.{ℕ, ◌≡◌, List, Bool, false, None}
use Rattle.laws.proofs.Prelude.{refl, arith, le-ltb}
use mathlib.Core.Bool.{and_assoc}
use Rattle.laws.specs.Search.{lowest, lowest_below, any_below}
use Rattle.laws.proofs.Search.{lowest_agree, lowest_all_fail, none_below}
use Rattle.area.specs.Prelude.{area_size}
use Rattle.protocol.specs.Opening.{shares_with}
use Rattle.conflict.specs.Others.{is_other}

module _ (live : List Bool) (m : List ℕ) (cards : ℕ) where
  pub none_shares : (pages c : ℕ) (list : List ℕ) → any_below (is_other live (area_size pages) m c) cards ≡ false
      → None ≡ lowest_below (shares_with live pages m c list) cards
  unfolding is_other shares_with
  none_shares pages c list none =
      let same =
      lowest_agree (shares_with live pages m c list) (λ _. false) cards
      (λ j below. rw (← and_assoc, none_below (is_other live (area_size pages) m c) cards none j below))
      in
      let past = lowest_all_fail (λ _. false) 0 cards (λ _ _. refl) in
      rw (le-ltb (lowest (shares_with live pages m c list) cards) cards (omega (arith, same, past)))
