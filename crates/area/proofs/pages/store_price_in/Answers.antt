-- Rests on `sets_part`: the page is lent as a part, and a run of one word is stored in it.
use mathlib.Core.List.{[], ◌∷◌}
use native.Mathlib.Omega.{arith}
use Rattle.memory.proofs.Parts.{sets_part}
use Rattle.area.specs.Layout.{stored_page_size, page_at}
use Rattle.area.proofs.pages.store_price_in.Goals as goal

pub returns : goal.returns
returns c =
    let a = c.args in
    rw c.page_at-start.ensures
    (sets_part a.area.now (page_at a.page) stored_page_size a.word (a.v ∷ [])
    (rw c.page_at-start.ensures at c.store_in_page.ensures) (omega arith))
