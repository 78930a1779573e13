-- The committed prices come after the tentative ones and nine others.
use mathlib.Core.Path.{refl}
use native.Mathlib.Omega.{arith}
use Prim.Native.Nat.{◌+◌, ◌*◌}
use Rattle.release.specs.Phases.{committed}
use Rattle.release.proofs.phase.next_phase.Goals as goal

pub returns-then-steps-done : goal.returns-then-steps-done
returns-then-steps-done c =
    record {
      first = 2 * c.args.k + 9;
      from = committed refl refl;
      is = omega arith;
      within = omega arith;
    }
