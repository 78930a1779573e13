-- Reading a diff as a derivation: what each word was, and the prices of the words that follow.
use Rattle.std.specs.Prelude.{ℕ, ◌+◌, ◌≤◌, ◌<◌, ◌≡◌, true, ltb, eqb}
use Rattle.laws.proofs.Prelude.{arith, ltb-true, ltb-false, leb-false, eqb-true, eqb-false}
use Rattle.laws.proofs.Bools.{by_cond}
use Rattle.diff.specs.Format.{kind, low, offset, count}
use Rattle.diff.specs.Reading.{Cursor, Step, past_price, past_page, past_run, word_step, page_step, run_step, end_step}
use Rattle.diff.specs.Reading.{lacks_run, page_behind, no_such_page, before_first_page, empty_run, past_page_end}
use Rattle.diff.specs.Reading.{touches_run, own_index}
use Rattle.diff.specs.declared.Step.TheVariants.{Next, End, Fault}

-- ---- what a word was, by what it did

pub data WordCase (pages : ℕ) (s : Cursor) (index w : ℕ) : Step → Type 0 where
  a_price : 0 < s.due → WordCase pages s index w (Next (past_price s))
  a_page : s.due ≡ 0 → kind w ≡ 1 → 0 < s.gap → s.next ≤ low w → low w < pages
      → WordCase pages s index w (Next (past_page s (low w)))
  a_run : s.due ≡ 0 → kind w ≡ 2 → 0 < s.next → 0 < count w → offset w + count w ≤ 32
      → s.word + s.gap ≤ offset w → WordCase pages s index w (Next (past_run s (offset w) (count w)))
  an_end : s.due ≡ 0 → kind w ≡ 15 → 0 < s.gap → low w ≡ index → WordCase pages s index w End
  a_fault : s.due ≡ 0 → WordCase pages s index w Fault

module _ (pages : ℕ) (s : Cursor) (index w : ℕ) where
  pub word_case : WordCase pages s index w (word_step pages s index w)
  unfolding word_step
  word_case =
      by_cond P (ltb 0 s.due) _ _ (λ t. a_price (omega (arith, ltb-true)))
      (λ none. by_cond P (eqb (kind w) 1) _ _ (page_case (omega (arith, ltb-false)))
      (λ _. by_cond P (eqb (kind w) 2) _ _ (run_case (omega (arith, ltb-false)))
      (λ _. by_cond P (eqb (kind w) 15) _ _ (end_case (omega (arith, ltb-false)))
      (λ _. a_fault (omega (arith, ltb-false))))))
    where
      P : Step → Type 0
      P = WordCase pages s index w

      page_case : s.due ≡ 0 → eqb (kind w) 1 ≡ true → P (page_step pages s w)
      page_case none k =
          by_cond P (lacks_run s) _ _ (λ _. a_fault none)
          (λ run. by_cond P (page_behind s w) _ _ (λ _. a_fault none)
          (λ up. by_cond P (no_such_page pages w) _ _ (λ _. a_fault none)
          (λ fits. a_page none (eqb-true _ _ k) (omega (arith, eqb-false)) (omega (arith, ltb-false))
          (omega (arith, leb-false)))))

      run_case : s.due ≡ 0 → eqb (kind w) 2 ≡ true → P (run_step s w)
      run_case none k =
          by_cond P (before_first_page s) _ _ (λ _. a_fault none)
          (λ named. by_cond P (empty_run w) _ _ (λ _. a_fault none)
          (λ some. by_cond P (past_page_end w) _ _ (λ _. a_fault none)
          (λ fits. by_cond P (touches_run s w) _ _ (λ _. a_fault none)
          (λ apart. a_run none (eqb-true _ _ k) (omega (arith, eqb-false)) (omega (arith, eqb-false))
          (omega (arith, ltb-false)) (omega (arith, ltb-false))))))

      end_case : s.due ≡ 0 → eqb (kind w) 15 ≡ true → P (end_step s index w)
      end_case none k =
          by_cond P (lacks_run s) _ _ (λ _. a_fault none)
          (λ run. by_cond P (own_index index w) _ _
          (λ own. an_end none (eqb-true _ _ k) (omega (arith, eqb-false)) (omega (arith, eqb-true)))
          (λ _. a_fault none))
