-- A part of a slice that is lent on: what the stores made in it make of the whole.
use Rattle.std.specs.Prelude.{ℕ, suc, ◌+◌, ◌-◌, ◌<◌, ◌≤◌, ◌≡◌, List, [], ◌∷◌, length, set, drop}
use Rattle.laws.proofs.Prelude.{sym, ap, ◌∙◌, arith}
use native.Mathlib.Nat.{add-zero}
use lib.Seq.{sets, take-set-le, take-set-lt, drop-set-lt, drop-set-add}
use borrow.Rule.Slice.PartMut.{put_mid, mid_of, put_same, mid_len}
use Rattle.laws.proofs.Lists.{sets_whole}

-- the words of `&mut m[a..a + k]`, and m with other words in their place
abbrev pub part : List ℕ → ℕ → ℕ → List ℕ
part m a k = mid_of a (a + k - a) m

abbrev pub put_back : List ℕ → ℕ → ℕ → List ℕ → List ℕ
put_back m a k words = put_mid a (a + k - a) m words

pub length_part : (m : List ℕ) (a k : ℕ) → a + k ≤ length m → length (part m a k) ≡ k
length_part m a k fits = omega (arith, mid_len a (a + k) m fits)

sets_mid : (vs m : List ℕ) (a k i : ℕ) → i + length vs ≤ k → put_mid a k m (sets (mid_of a k m) i vs) ≡ sets m (a + i) vs
sets_mid [] m a k i fits = put_same a k m
sets_mid (v ∷ vs) m a k i fits =
    let next : suc (a + i) ≡ a + suc i = omega arith in
    let inside : i < k = omega arith in
    rw (
      ← take-set-lt k (drop a m) i v inside,
      ← drop-set-lt k (drop a m) i v inside,
      ← drop-set-add a m i v,
      ← take-set-le a m (a + i) v (omega arith),
      next,
    )
    (sets_mid vs (set m (a + i) v) a k (suc i) (omega arith))

module _ (m : List ℕ) (a k : ℕ) {words : List ℕ} where
  -- a run stored in the part
  pub sets_part : (i : ℕ) (vs : List ℕ) → words ≡ sets (part m a k) i vs → i + length vs ≤ k
      → put_back m a k words ≡ sets m (a + i) vs
  sets_part i vs stored fits = ap (put_back m a k) stored ∙ sets_mid vs m a (a + k - a) i (omega arith)

  -- a run stored over the whole part
  pub sets_all_part : (vs : List ℕ) → words ≡ vs → length vs ≡ k → a + k ≤ length m → put_back m a k words ≡ sets m a vs
  sets_all_part vs stored long fits =
      let all = sets_whole vs (part m a k) (omega (arith, length_part m a k fits)) in
      rw add-zero at (sets_part 0 vs (stored ∙ sym all) (omega arith))
