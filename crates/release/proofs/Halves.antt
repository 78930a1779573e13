-- The halves of the pages: their offsets, and the steps that store their first prices.
use Rattle.std.specs.Prelude.{ℕ, ◌+◌, ◌*◌, ◌≤◌, ◌≡◌}
use Rattle.laws.proofs.Prelude.{arith}
use Rattle.area.specs.Prelude.{page_size}
use Rattle.release.specs.Phases.{HalfFrom, tentative, committed}

pub half_bounds : {k first half : ℕ} → HalfFrom k first half → (first ≤ 2 * k + 9) × (half ≤ page_size)
half_bounds (tentative from is) = (omega arith, omega arith)
half_bounds (committed from is) = (omega arith, omega arith)

pub half_same : {k k' first half : ℕ} → k ≡ k' → HalfFrom k first half → HalfFrom k' first half
half_same same half = rw (← same) half
