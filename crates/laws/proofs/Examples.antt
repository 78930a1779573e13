-- A list of examples holds if none of the computed ones fails and each claim is shown.
use Rattle.std.specs.Prelude.{ℕ, suc, ◌≡◌, List, [], ◌∷◌, Bool, true, false, eqb}
use Rattle.laws.proofs.Prelude.{refl, false≢true, eqb-true}
use mathlib.Core.List.{cons≢nil}
use Rattle.laws.proofs.Bools.{and_first, and_second}
use Rattle.laws.specs.Examples.{Example, computed, claimed, AllHold, same_words, failures_from, failures, Claims}

pub words_same : (vs ws : List ℕ) → same_words vs ws ≡ true → vs ≡ ws
unfolding same_words
words_same [] [] same = refl
words_same [] (w ∷ ws) same = absurd (false≢true same)
words_same (v ∷ vs) [] same = absurd (false≢true same)
words_same (v ∷ vs) (w ∷ ws) same =
    rw (
      eqb-true v w (and_first (eqb v w) (same_words vs ws) same),
      words_same vs ws (and_second (eqb v w) (same_words vs ws) same),
    )

hold_from : (i : ℕ) (es : List Example) → failures_from i es ≡ [] → Claims es → AllHold es
unfolding AllHold failures_from Claims
hold_from i [] none claims = tt
hold_from i (computed given expected ∷ es) none claims =
    go (same_words given expected) refl (λ rest. hold_from (suc i) es rest claims)
  where
    go : (same : Bool) → same_words given expected ≡ same → (failures_from (suc i) es ≡ [] → AllHold es)
        → AllHold (computed given expected ∷ es)
    go true same rest = (words_same given expected same, rest (rw same at none))
    go false other rest = absurd (cons≢nil (rw other at none))
hold_from i (claimed C ∷ es) none claims = (claims.0, hold_from (suc i) es none claims.1)

pub all_hold : (es : List Example) → failures es ≡ [] → Claims es → AllHold es
all_hold es none claims = hold_from 0 es none claims
