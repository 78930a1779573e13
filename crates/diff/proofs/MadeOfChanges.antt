-- What the list maker makes with the marks of what differs: the list of before there were marks, and demand 2.
use Rattle.std.specs.Prelude.{ℕ, suc, ◌+◌, ◌/◌, ◌<◌, ◌≡◌, List, [], ◌∷◌, ◌++◌, Bool, true, false, not, cond, length}
use Rattle.std.specs.Prelude.{get_or, eqb}
use Rattle.laws.proofs.Prelude.{refl, sym, ap, ◌∙◌, true≢false, arith, ℕ_discrete, dec_lt, eq-eqb, ne_eqb}
use native.Mathlib.Nat.{add-zero, zero-add}
use lib.ListN.{get_or-eq_default}
use Rattle.diff.specs.Prices.{prices_of, names, applied_at}
use Rattle.diff.specs.Encoding.{price_at, listed, encode}
use Rattle.diff.specs.Marks.{is_marked, change_marks}
use Rattle.diff.specs.Making.{price_on, made_diff}
use Rattle.diff.specs.OnlyDiff.{Names, DiffOf}
use Rattle.diff.specs.MadeDiff.{Turns, Differs, MadeOfMarks, differences_from, ChangesMarked, MarksAreChanges}
use Rattle.diff.specs.MadeDiff.{StoresChanges, MadeIsOnlyDiff}
use Rattle.diff.proofs.Prices.{applied_unnamed, applied_named, apply_at}
use Rattle.diff.proofs.Marks.{is_changed, length_changes, changes_small, changes_marked}
use Rattle.diff.proofs.Making.{LentPages, MakeAccepted, make_accepted, marking_accepted, lent_by_pages}
use Rattle.diff.proofs.Making.{marking_accepts}
use Rattle.diff.proofs.MadeDiff.{made_of_marks}

-- ---- the marks of what differs

module _ (working twins : List ℕ) (label : ℕ) where
  differs_changed : Differs working twins label → is_changed working twins label ≡ true
  differs_changed differs = rw (ne_eqb (get_or working label 0) (get_or twins label 0) differs)

  same_unchanged : get_or working label 0 ≡ get_or twins label 0 → is_changed working twins label ≡ false
  same_unchanged same = rw (eq-eqb (get_or working label 0) (get_or twins label 0) same)

-- the differences are the listed prices of what differs
differences_listed : (named : ℕ → Bool) (price : ℕ → ℕ) (label : ℕ) (ws ts : List ℕ) → length ws ≡ length ts
    → ((i : ℕ) → named (label + i) ≡ is_changed ws ts i) → ((i : ℕ) → price (label + i) ≡ get_or ws i 0)
    → listed named price label (length ws) ≡ differences_from label ws ts
unfolding listed differences_from
differences_listed named price label [] ts even is at = refl
differences_listed named price label (w ∷ ws) [] even is at = absurd (omega arith)
differences_listed named price label (w ∷ ws) (t ∷ ts) even is at =
    rw (
      rw add-zero at (is 0),
      rw add-zero at (at 0),
      differences_listed named price (label + 1) ws ts (omega arith) (λ i. rw (next i) (is (suc i)))
          (λ i. rw (next i) (at (suc i))),
    )
    (go (eqb w t))
  where
    next : (i : ℕ) → label + 1 + i ≡ label + suc i
    next i = omega arith

    go : (same : Bool)
        → cond (not same) (price_at label w ∷ []) [] ++ differences_from (label + 1) ws ts
        ≡ cond same [] (price_at label w ∷ []) ++ differences_from (label + 1) ws ts
    go true = refl
    go false = refl

module _ (working twins : List ℕ) (lent : LentPages (length working) (length twins)) where
  changes_are : (label : ℕ) → is_marked (change_marks working twins) label ≡ is_changed working twins label
  changes_are =
      changes_marked (length working / 32) working twins (omega (arith, lent.whole))
      (omega (arith, lent.whole, lent.even))

  changes_are_marked : ChangesMarked working twins
  unfolding made_diff
  changes_are_marked =
      record {
        one_per_page = rw (length_changes (length working / 32) working twins) (omega (arith, lent.whole));
        words = changes_small (length working / 32) working twins;
        marks_what_differs = λ label differs. changes_are label ∙ differs_changed working twins label differs;
        marks_no_other = λ label is same.
            true≢false (sym is ∙ changes_are label ∙ same_unchanged working twins label same);
        same_diff = ap encode
            (differences_listed (is_marked (change_marks working twins)) (price_on working) 0 working twins lent.even
            (λ i. rw (zero-add i) (changes_are i)) (λ i. rw (zero-add i)));
      }

pub marks_are_changes : MarksAreChanges
marks_are_changes working twins marks accepted =
    let lent = marking_accepted (length working) (length twins) (length marks) accepted in
    (lent_by_pages working twins marks lent, changes_are_marked working twins lent.pages)

pub stores_changes : StoresChanges
stores_changes pages working twins marks lent =
    let accepted = marking_accepts lent in
    (accepted, rw accepted)

-- ---- demand 2

module _ (pages : ℕ) (working twins : List ℕ) (lent : LentPages (length working) (length twins)) where
  differs_within : (label : ℕ) → Differs working twins label → label < length working
  differs_within label differs = elim (dec_lt label (length working)) [
    | yes within ↦ within
    | no past ↦
        absurd
        (differs
        (get_or-eq_default working 0 {n = label} (omega arith)
        ∙ sym (get_or-eq_default twins 0 {n = label} (omega (arith, lent.even)))))
  ]

  -- a diff that turns the twins into the working pages, and names only what differs, names just the marked words, at
  -- their working prices
  module _ (diff : List ℕ) (turns : Turns pages diff twins working)
      (spare : (label : ℕ) → Names pages diff label → Differs working twins label) where
    turned : (label : ℕ) → Differs working twins label
        → applied_at (prices_of pages diff) label (get_or twins label 0) ≡ get_or working label 0
    turned label differs =
        sym (apply_at (prices_of pages diff) twins label (rw (← lent.even) (differs_within label differs)))
        ∙ ap (λ (l : List ℕ). get_or l label 0) turns

    names_changes : (label : ℕ) → names (prices_of pages diff) label ≡ is_marked (change_marks working twins) label
    names_changes label = go (names (prices_of pages diff) label) refl ∙ sym (changes_are working twins lent label)
      where
        go : (is : Bool) → names (prices_of pages diff) label ≡ is → is ≡ is_changed working twins label
        go true is = sym (differs_changed working twins label (spare label is))
        go false un = elim (ℕ_discrete (get_or working label 0) (get_or twins label 0)) [
          | yes same ↦ sym (same_unchanged working twins label same)
          | no differs ↦
              absurd
              (differs
              (sym (turned label differs) ∙ applied_unnamed (prices_of pages diff) label (get_or twins label 0) un))
        ]

    diff_of_changes : DiffOf pages (is_marked (change_marks working twins)) (price_on working) diff
    diff_of_changes =
        record {
          names_these = λ label below. names_changes label;
          at_price = λ label is.
              applied_named (prices_of pages diff) label 0 (get_or twins label 0) is ∙ turned label (spare label is);
        }

pub made_is_only_diff : MadeIsOnlyDiff
made_is_only_diff pages room working twins fits few ok =
    record {
      allowed = made.allowed;
      turns = made.turns changes.marks_what_differs;
      names_what_differs = λ label differs. made.names_marked label ∙ changes.marks_what_differs label differs;
      names_no_other = λ label is. changes.marks_no_other label (sym (made.names_marked label) ∙ is);
      only = λ other allowed turns spare.
          made.only other allowed (diff_of_changes pages working twins lent other turns spare);
    }
  where
    accepted : MakeAccepted working twins (change_marks working twins)
    accepted = make_accepted working twins (change_marks working twins) room ok

    lent : LentPages (length working) (length twins)
    lent = accepted.lent.pages

    made : MadeOfMarks pages working twins (change_marks working twins)
    made = made_of_marks pages working twins (change_marks working twins) fits few accepted

    changes : ChangesMarked working twins
    changes = changes_are_marked working twins lent
