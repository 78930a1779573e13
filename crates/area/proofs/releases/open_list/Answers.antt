-- Rests on the part of the memory that is lent: it is the 512 words of the list.
use Prim.Native.Nat.{◌+◌, ◌-◌}
use mathlib.Core.Path.{◌≡◌}
use native.Mathlib.Omega.{arith}
use lib.ListN.{length-take, length-drop}
use Rattle.memory.specs.Words.{index_of, load_run}
use Rattle.area.specs.Layout.{list_start, list_size}
use Rattle.area.specs.Releases.{open_list}
use Rattle.area.proofs.releases.open_list.Goals as goal

pub returns : goal.returns
unfolding open_list load_run
returns c =
    let a = c.args in
    let from = index_of a.size a.card list_start in
    let words : from + list_size - from ≡ list_size = omega arith in
    record { result_value = rw words; result_len = simp (length-take, length-drop) (omega arith) }
