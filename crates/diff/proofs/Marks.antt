-- The marks of the pages: a label by its page and its word, and that past them nothing is marked; and the marks of what
-- differs, one word at a time and one page at a time.
use Rattle.std.specs.Prelude.{ℕ, zero, suc, ◌+◌, ◌*◌, ◌/◌, ◌%◌, ◌^◌, ◌≤◌, ◌<◌, ◌≡◌, List, [], ◌∷◌, Bool, true, false}
use Rattle.std.specs.Prelude.{not, cond, length, get_or, take, drop, eqb}
use Rattle.laws.proofs.Prelude.{refl, ◌∙◌, arith, dec_lt, eq-eqb, ne_eqb}
use mathlib.Core.List.{append-nil}
use native.Mathlib.Nat.{pow-suc}
use lib.ListN.{length-take, length-drop, get_or-eq_default}
use lib.Seq.{get_or-take, get_or-drop, drop-drop}
use lib.Pow.{pow_pos}
use Rattle.diff.specs.Encoding.{listed}
use Rattle.diff.specs.Marks.{bit, is_set, is_marked, changed_words, changes_of}
use Rattle.diff.proofs.Bits.{bit_half, bit-first, none_set}
use Rattle.diff.proofs.Listed.{listed-append, listed_unnamed}

module _ (marks : List ℕ) where
  -- a label, by its page and its word
  pub marked_at : (page w : ℕ) → w < 32 → is_marked marks (32 * page + w) ≡ is_set (get_or marks page 0) w
  marked_at page w below =
      let a : (32 * page + w) / 32 ≡ page = omega arith in
      let b : (32 * page + w) % 32 ≡ w = omega arith in
      rw (a, b)

  pub unmarked : (label : ℕ) → 32 * length marks ≤ label → is_marked marks label ≡ false
  unmarked label past =
      rw (get_or-eq_default marks 0 {n = label / 32} (omega arith)) (none_set (label % 32))

  -- so as many labels as one likes may be looked at, past the pages
  pub marked-listed : (price : ℕ → ℕ) (n : ℕ)
      → listed (is_marked marks) price 0 (32 * length marks + n) ≡ listed (is_marked marks) price 0 (32 * length marks)
  marked-listed price n =
      listed-append (is_marked marks) price 0 (32 * length marks) n
      ∙ rw (listed_unnamed (is_marked marks) price (0 + 32 * length marks) n (λ i low high. unmarked i (omega arith)))
      (append-nil (listed (is_marked marks) price 0 (32 * length marks)))

-- ---- the marks of what differs

-- whether a label's price is not its twin
abbrev pub is_changed : List ℕ → List ℕ → ℕ → Bool
is_changed working twins label = not (eqb (get_or working label 0) (get_or twins label 0))

-- a word of them, bit by bit
changed_set : (ws ts : List ℕ) (i : ℕ) → length ws ≡ length ts → is_set (changed_words ws ts) i ≡ is_changed ws ts i
unfolding changed_words
changed_set [] [] i even = none_set i
changed_set [] (t ∷ ts) i even = absurd (omega arith)
changed_set (w ∷ ws) [] i even = absurd (omega arith)
changed_set (w ∷ ws) (t ∷ ts) zero even = go (eqb w t) (changed_words ws ts)
  where
    go : (same : Bool) (rest : ℕ) → is_set (cond same 0 1 + 2 * rest) 0 ≡ not same
    go true rest = ne_eqb (bit (0 + 2 * rest) 0) 1 (omega (arith, bit-first (0 + 2 * rest)))
    go false rest = eq-eqb (bit (1 + 2 * rest) 0) 1 (omega (arith, bit-first (1 + 2 * rest)))
changed_set (w ∷ ws) (t ∷ ts) (suc i) even =
    rw (← bit_half (cond (eqb w t) 0 1 + 2 * changed_words ws ts) i, half (eqb w t))
    (changed_set ws ts i (omega arith))
  where
    half : (same : Bool) → (cond same 0 1 + 2 * changed_words ws ts) / 2 ≡ changed_words ws ts
    half true = omega arith
    half false = omega arith

pub changed_small : (n : ℕ) (ws ts : List ℕ) → length ws ≤ n → changed_words ws ts < 2 ^ n
unfolding changed_words
changed_small n [] ts few = pow_pos n
changed_small n (w ∷ ws) [] few = pow_pos n
changed_small zero (w ∷ ws) (t ∷ ts) few = absurd (omega arith)
changed_small (suc n) (w ∷ ws) (t ∷ ts) few =
    rw (pow-suc 2 n) (go (eqb w t) (changed_small n ws ts (omega arith)))
  where
    go : (same : Bool) → changed_words ws ts < 2 ^ n → cond same 0 1 + 2 * changed_words ws ts < 2 ^ n * 2
    go true small = omega arith
    go false small = omega arith

-- those of the pages, one word each
pub length_changes : (pages : ℕ) (ws ts : List ℕ) → length (changes_of pages ws ts) ≡ pages
unfolding changes_of
length_changes zero ws ts = refl
length_changes (suc pages) ws ts = rw (length_changes pages (drop 32 ws) (drop 32 ts))

pub changes_at : (pages : ℕ) (ws ts : List ℕ) (page : ℕ) → page < pages
    → get_or (changes_of pages ws ts) page 0
    ≡ changed_words (take 32 (drop (32 * page) ws)) (take 32 (drop (32 * page) ts))
unfolding changes_of
changes_at zero ws ts page below = absurd (omega arith)
changes_at (suc pages) ws ts zero below = refl
changes_at (suc pages) ws ts (suc page) below =
    let on : 32 * suc page ≡ 32 + 32 * page = omega arith in
    changes_at pages (drop 32 ws) (drop 32 ts) page (omega arith)
    ∙ rw (on, drop-drop (32 * page) 32 ws, drop-drop (32 * page) 32 ts)

module _ (pages : ℕ) (ws ts : List ℕ) where
  pub changes_small : (page : ℕ) → get_or (changes_of pages ws ts) page 0 < 2 ^ 32
  changes_small page = elim (dec_lt page pages) [
    | yes below ↦
        rw (changes_at pages ws ts page below)
        (changed_small 32 (take 32 (drop (32 * page) ws)) (take 32 (drop (32 * page) ts))
        (rw length-take (omega arith)))
    | no past ↦
        rw (get_or-eq_default (changes_of pages ws ts) 0 {n = page} (rw (length_changes pages ws ts) (omega arith)))
        (pow_pos 32)
  ]

  -- where there are so many whole pages, they mark what differs and nothing else
  pub changes_marked : length ws ≡ 32 * pages → length ts ≡ 32 * pages → (label : ℕ)
      → is_marked (changes_of pages ws ts) label ≡ is_changed ws ts label
  changes_marked whole whole' label = elim (dec_lt (label / 32) pages) [
    | yes below ↦
        rw (changes_at pages ws ts (label / 32) below)
        (changed_set (part ws) (part ts) (label % 32) parts ∙ rw (in_part ws, in_part ts))
    | no past ↦
        unmarked (changes_of pages ws ts) label (rw (length_changes pages ws ts) (omega arith))
        ∙ rw (get_or-eq_default ws 0 {n = label} (omega arith), get_or-eq_default ts 0 {n = label} (omega arith))
  ]
    where
      part : List ℕ → List ℕ
      part l = take 32 (drop (32 * (label / 32)) l)

      parts : length (part ws) ≡ length (part ts)
      parts = simp (length-take, length-drop, whole, whole')

      in_part : (l : List ℕ) → get_or (part l) (label % 32) 0 ≡ get_or l label 0
      in_part l =
          let at : 32 * (label / 32) + label % 32 ≡ label = omega arith in
          get_or-take 32 (drop (32 * (label / 32)) l) (label % 32) 0 (omega arith)
          ∙ get_or-drop (32 * (label / 32)) l (label % 32) 0 ∙ rw at
