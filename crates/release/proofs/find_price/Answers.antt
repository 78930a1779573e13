-- Rests on `found_price`.
use native.Mathlib.Omega.{arith}
use Rattle.release.proofs.Prices.{found_price}
use Rattle.release.proofs.find_price.Goals as goal

pub open_list-requires : goal.open_list-requires
open_list-requires c = (omega arith, c.requires.1)

pub returns : goal.returns
returns c =
    let a = c.args in
    let finds = rw c.open_list.ensures.result_value at c.nth_price.ensures in
    found_price a.pages _ a.memory.now a.card a.n c.requires.0 _ _
    (rw finds at c.unwrap_or.ensures)
