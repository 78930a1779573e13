-- Rests on `sets_part`: the card's area is lent as a part, and a run of one word is stored in it.
use Prim.Native.Nat.{◌+◌, ◌*◌}
use mathlib.Core.List.{[], ◌∷◌}
use native.Mathlib.Omega.{arith}
use Rattle.memory.specs.Words.{store}
use Rattle.area.specs.Layout.{page_at}
use Rattle.memory.proofs.Parts.{sets_part}
use Rattle.area.proofs.pages.store_price.Goals as goal

pub returns : goal.returns
unfolding store
returns c =
    let a = c.args in
    sets_part a.memory.now (a.card * a.size) a.size (page_at a.page + a.word) (a.v ∷ [])
    c.store_price_in.ensures (omega arith)
