-- `page::run_marks` meets its contract: the difference of two powers of two has the ones of the run.
use Prim.Native.Nat.{◌+◌}
use borrow.Author.Rules.{rules}
use Rattle.merger.proofs.page.Bits.{shifted, below_end, ones_set}
use Rattle.merger.proofs.page.run_marks.Goals as goal

pub overflow_sub-result : goal.overflow_sub-result
overflow_sub-result c =
    let a = c.args in
    rw (shifted a.offset (search rules), shifted (a.offset + a.count) (search rules))
    (below_end a.offset a.count)

pub returns : goal.returns
returns c =
    let a = c.args in
    rw (shifted a.offset (search rules), shifted (a.offset + a.count) (search rules))
    (ones_set a.offset a.count)
