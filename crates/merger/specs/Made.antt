-- Inner contracts only. A diff made in a list that may be too short for it, and the number of words that is answered.
-- Assumes nothing: these are definitions.
use Rattle.std.specs.Prelude.{ℕ, ◌<◌, ◌≤◌, ◌≡◌, List, length, Option, None, Some}
use Rattle.std.proofs.lemmas.List.Edits.{sets}

-- the diff stands at the front of the list, and its length is answered; or it is longer than the list
abbrev pub MadeIn : List ℕ → List ℕ → Option ℕ → List ℕ → Type 0
MadeIn diff before None after = length before < length diff
MadeIn diff before (Some words) after = (words ≡ length diff) × ((length diff ≤ length before) × (after ≡ sets before 0 diff))
