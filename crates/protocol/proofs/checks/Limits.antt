-- What a rack that passes check 1 keeps to.
use Rattle.std.specs.Prelude.{ℕ, ◌*◌, ◌≤◌, ◌≡◌, false, ltb, eqb}
use Rattle.laws.proofs.Prelude.{ltb-false, eqb-true, not-false}
use Rattle.laws.proofs.Bools.{neither}
use Rattle.area.specs.Prelude.{area_size}
use Rattle.protocol.specs.Checks.{outside_limits}

pub record Within (words cards pages : ℕ) : Type 0 where
  pub cards_least : 3 ≤ cards
  pub cards_most : cards ≤ 8
  pub pages_least : 1 ≤ pages
  pub pages_most : pages ≤ 64
  pub whole : words ≡ cards * area_size pages

pub within_limits : (words cards pages : ℕ) → outside_limits words cards pages ≡ false → Within words cards pages
unfolding outside_limits
within_limits words cards pages accepted =
    let enough = neither (ltb cards 3) _ accepted in
    let few = neither (ltb 8 cards) _ enough.1 in
    let some = neither (ltb pages 1) _ few.1 in
    let fitted = neither (ltb 64 pages) _ some.1 in
    record {
      cards_least = ltb-false _ _ enough.0;
      cards_most = ltb-false _ _ few.0;
      pages_least = ltb-false _ _ some.0;
      pages_most = ltb-false _ _ fitted.0;
      whole = eqb-true _ _ (not-false (eqb words (cards * area_size pages)) fitted.1);
    }
