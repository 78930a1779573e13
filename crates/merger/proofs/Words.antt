-- The words of a list from an index on, of which there are some: that the index is inside, and the first of them.
use Rattle.std.specs.Prelude.{ℕ, ◌+◌, ◌<◌, ◌≡◌, List, [], ◌∷◌, ◌++◌, length, get_or, drop}
use Rattle.laws.proofs.Prelude.{sym, ap, ◌∙◌, arith}
use native.Mathlib.Numerals.{add-one}
use lib.ListN.{length-drop, length-append}
use lib.Seq.{drop-cons}

pub words_inside : (list : List ℕ) (index : ℕ) (us : List ℕ) (w : ℕ) (ws : List ℕ) → drop index list ≡ us ++ w ∷ ws
    → index < length list
words_inside list index us w ws from =
    omega (arith, sym (length-drop index list) ∙ ap length from ∙ length-append us (w ∷ ws))

module _ (list : List ℕ) (index : ℕ) {w : ℕ} {ws : List ℕ} (from : drop index list ≡ w ∷ ws) where
  parts : get_or list index 0 ∷ drop (index + 1) list ≡ w ∷ ws
  parts = rw (add-one index) (sym (drop-cons list index 0 (words_inside list index [] w ws from)) ∙ from)

  pub word_at : get_or list index 0 ≡ w
  word_at = let whole = parts in cc

  pub words_behind : drop (index + 1) list ≡ ws
  words_behind = let whole = parts in cc
