-- Of three live cards, two stay when one fails.
use Rattle.std.specs.Prelude.{ℕ, ◌<◌, ◌≡◌, ◌≢◌, true, false}
use Rattle.laws.proofs.Prelude.{◌∙◌, arith, ℕ_discrete}
use Rattle.laws.specs.Search.{count_below}
use Rattle.laws.proofs.Search.{highest}
use Rattle.directory.specs.declared.Directory.{Directory}
use Rattle.directory.specs.Directory.{is_live}
use Rattle.directory.proofs.Changes.{live_of_other}
use Rattle.protocol.specs.Failure.{failed_directory}
use Rattle.protocol.proofs.invariant.Rack.{TwoLive}

module _ (d : Directory) (c : ℕ) where
  pair : (x y : ℕ) → x ≢ y → x ≢ c → y ≢ c → is_live d x ≡ true → is_live d y ≡ true → TwoLive (failed_directory d c)
  pair x y differ first second x_live y-live =
      record {
        one = x;
        two = y;
        differ = differ;
        first = live_of_other d c false x first ∙ x_live;
        second = live_of_other d c false y second ∙ y-live;
      }

  pub two_stay : 2 < count_below (is_live d) d.cards → TwoLive (failed_directory d c)
  two_stay many =
      let x = highest (is_live d) 2 d.cards many in
      let y = highest (is_live d) 1 x.index x.others in
      let z = highest (is_live d) 0 y.index y.others in
      elim (ℕ_discrete x.index c) [
        | yes here ↦
            pair y.index z.index (omega (arith, z.below)) (omega (arith, y.below))
            (omega (arith, y.below, z.below))
            y.passes z.passes
        | no first ↦ elim (ℕ_discrete y.index c) [
          | yes here ↦
              pair x.index z.index (omega (arith, y.below, z.below)) first (omega (arith, z.below))
              x.passes
              z.passes
          | no second ↦ pair x.index y.index (omega (arith, y.below)) first second x.passes y.passes
        ]
      ]
