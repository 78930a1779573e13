-- Inner contracts only. States that reading within 512 words can reach: their sums fit.
use Rattle.std.specs.Prelude.{◌+◌, ◌*◌, ◌≤◌}
use Rattle.diff.specs.declared.Cursor.{Cursor}

pub record WellFormed (s : Cursor) : Type 0 where
  pub within : s.word + s.due ≤ 32
  pub one : s.gap ≤ 1
  pub few : s.prices ≤ 512
  pub named : s.due ≤ 32 * s.next
