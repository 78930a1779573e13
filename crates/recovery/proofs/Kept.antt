-- What recovery and join rely on: each card of a rack has its mark and area, so has the next live card after any, and
-- the length of the memory alone counts.
use Rattle.std.specs.Prelude.{ℕ, ◌<◌, ◌≤◌, ◌≡◌}
use Rattle.laws.proofs.Prelude.{arith}
use Rattle.directory.specs.declared.Directory.{Directory}
use Rattle.directory.specs.Directory.{next_live_of}
use Rattle.directory.proofs.Live.{next_live_below}
use Rattle.area.specs.Prelude.{AreaIn, pages_start}
use Rattle.area.proofs.Prelude.{area_in}
use Rattle.protocol.specs.Release.{size_of}
use Rattle.release.specs.Stepping.{CardIn}
use Rattle.release.proofs.Callers.{card_in}
use Rattle.recovery.specs.Rack.{RackIn, SomeLive, OtherLive}

module _ {d : Directory} where
  pub rack_kept : {words words' : ℕ} → RackIn d words → words' ≡ words → RackIn d words'
  rack_kept rack same = rw same rack

  pub rack_card : {words card : ℕ} → RackIn d words → card < d.cards → CardIn d.live words (size_of d) card
  rack_card rack below = card_in d.live (size_of d) rack.marks rack.eight rack.whole below

  pub some_live : OtherLive d → SomeLive d
  some_live two = let one = two 0 in record { card = one.card; below = one.below; up = one.live }

  pub next_below : SomeLive d → (c : ℕ) → next_live_of d c < d.cards
  next_below some c = next_live_below d.live d.cards c some.card some.below some.up

  -- so a record is read there
  pub next_in : {words : ℕ} → RackIn d words → SomeLive d → (c : ℕ)
      → (pages_start ≤ size_of d) × AreaIn words (size_of d) (next_live_of d c)
  next_in rack some c = (omega arith, area_in _ (next_below some c) rack.whole)
