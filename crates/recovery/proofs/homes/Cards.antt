-- The home that a page keeps is a card.
use Rattle.std.specs.Prelude.{ℕ, ◌<◌, eqb}
use Rattle.laws.proofs.Bools.{by_cond}
use Rattle.directory.specs.declared.Directory.{Directory}
use Rattle.directory.specs.Directory.{primary_of}
use Rattle.protocol.specs.Release.{size_of}
use Rattle.protocol.specs.Recovery.{kept_home}
use Rattle.protocol.proofs.recovery.Homes.{Covered}
use Rattle.release.specs.Stepping.{HomesOf, CardIn}

module _ (d : Directory) (f page : ℕ) {words : ℕ} where
  pub kept_in : HomesOf d words → page < d.pages → CardIn d.live words (size_of d) (kept_home d f page)
  unfolding kept_home
  kept_in homes below =
      by_cond (CardIn d.live words (size_of d)) (eqb (primary_of d page) f) _ _
      (λ _. homes.secondary_in page below)
      (λ _. homes.primary_in page below)

  -- and there are homes of either kind for each page
  pub homes_cover : HomesOf d words → Covered d
  homes_cover homes = (homes.primaries, homes.secondaries)
