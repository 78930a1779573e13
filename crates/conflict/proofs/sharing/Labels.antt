-- The marks of a list's labels stand for its prices: a marked label is one that the list names.
use Rattle.std.specs.Prelude.{ℕ, ◌≤◌, ◌≡◌, List, [], ◌∷◌, Bool, true, false, cond, ◌||◌, get_or}
use Rattle.laws.proofs.Prelude.{refl, ◌∙◌, arith}
use mathlib.Core.Bool.{and_assoc}
use Rattle.diff.specs.declared.Price.{Price}
use Rattle.diff.specs.Prices.{label_of, prices_of, names}
use Rattle.diff.proofs.Stored.{prices_on_pages}
use Rattle.protocol.specs.Opening.{share_word, shares_with}
use Rattle.conflict.specs.Marks.{marked}
use Rattle.conflict.specs.Others.{is_other}
use Rattle.conflict.specs.Sharing.{any_marked, marks_with}
use Rattle.conflict.proofs.Marks.{unmarked, any_at, marks_all}

names_labels : (ps : List Price) (label : ℕ) → any_at label_of ps label ≡ names ps label
unfolding any_at names
names_labels [] label = refl
names_labels (p ∷ ps) label = rw (names_labels ps label)

-- the marks of a list
marks-names : (pages : ℕ) → pages ≤ 64 → (label : ℕ) (list : List ℕ)
    → get_or (marked label_of (prices_of pages list) (unmarked 2048)) label false ≡ names (prices_of pages list) label
marks-names pages few label list =
    marks_all label_of 2048 pages (λ p page word. omega arith) label (prices_of pages list) (prices_on_pages pages list)
    ∙ names_labels (prices_of pages list) label

any_shares : (ps others : List Price) (marks : List Bool) → ((label : ℕ) → get_or marks label false ≡ names others label)
    → any_marked ps marks ≡ share_word ps others
unfolding any_marked share_word
any_shares [] others marks same = refl
any_shares (p ∷ ps) others marks same =
    rw (same (label_of p), any_shares ps others marks same) (go (names others (label_of p)))
  where
    go : (named : Bool) → (named || share_word ps others) ≡ cond named true (share_word ps others)
    go true = refl
    go false = refl

-- so the marks find the cards that the list shares a word with
pub marks_share : (live : List Bool) (pages : ℕ) (m : List ℕ) (c : ℕ) (list : List ℕ) → pages ≤ 64 → (other : ℕ)
    → marks_with live pages m c (marked label_of (prices_of pages list) (unmarked 2048)) other
    ≡ shares_with live pages m c list other
unfolding marks_with is_other shares_with
marks_share live pages m c list few other =
    rw (and_assoc, any_shares _ (prices_of pages list) _ (λ label. marks-names pages few label list))
