-- A walk over the words of a list: the bounds that each word keeps, and the prices that are left.
use Rattle.std.specs.Prelude.{ℕ, ◌+◌, ◌-◌, ◌≤◌, ◌<◌, ◌≡◌, List, [], ◌∷◌, ◌++◌, length, drop, get_or}
use Rattle.laws.proofs.Prelude.{refl, sym, ap, ◌∙◌, arith, lt-ltb, dec_lt, le-ltb}
use native.Mathlib.Numerals.{add-one}
use lib.Seq.{drop-cons}
use Rattle.diff.specs.declared.Cursor.{Cursor}
use Rattle.diff.specs.declared.Step.{Step}
use Rattle.diff.specs.declared.Step.TheVariants.{Next, End, Fault}
use Rattle.diff.specs.Reading.{past_price, word_step}
use Rattle.diff.specs.Prices.{priced_word, prices_after, prices_from, prices_of}
use Rattle.diff.proofs.Reading.{WordCase, a_price, a_page, a_run, an_end, a_fault, word_case}
use Rattle.diff.proofs.Derivation.{prices_word, step_price}
use Rattle.reader.specs.Walking.{Walk, at_first, after_word, past_word, price_due, past_run, Reached, prices_left}
use Rattle.reader.specs.Runs.{past_prices}
use Rattle.reader.proofs.Turns.{prices_end}

pub left_first : (pages : ℕ) (list : List ℕ) → prices_left pages list at_first ≡ prices_of pages list
unfolding prices_left prices_of
left_first pages list = refl

pub left_end : (pages : ℕ) (list : List ℕ) (at : Walk) → length list ≤ at.index → prices_left pages list at ≡ []
unfolding prices_left
left_end pages list at end = prices_end pages list at.index at.cursor end

-- ---- one word

module _ (pages : ℕ) (list : List ℕ) (at : Walk) (inside : at.index < length list) where
  abbrev s : Cursor
  s = at.cursor

  abbrev w : ℕ
  w = get_or list at.index 0

  -- the walk goes on within its bounds
  module _ (reached : Reached pages (length list) at) where
    abbrev Onward : Walk → Type 0
    Onward next = Reached pages (length list) next × (at.index < next.index)

    onward : {step : Step} → WordCase pages s at.index w step → Onward (after_word (length list) at step)
    onward (a_price due) = omega arith
    onward (a_page idle one gap up fits) = omega arith
    onward (a_run idle two named some fits past) = omega arith
    onward (an_end idle fifteen gap own) = omega arith
    onward (a_fault idle) = omega arith

    next : Onward (past_word pages list at)
    unfolding past_word
    next = onward (word_case pages s at.index w)

    pub reached_next : Reached pages (length list) (past_word pages list at)
    reached_next = next.0

    pub fewer_left : length list - (past_word pages list at).index < length list - at.index
    fewer_left = omega (arith, next)

  -- what a word adds to the prices counted
  adds : {step : Step} → WordCase pages s at.index w step
      → (after_word (length list) at step).cursor.prices ≡ s.prices + length (price_due s w)
  adds (a_price due) = rw (lt-ltb 0 s.due due)
  adds (a_page idle _ _ _ _) = rw (le-ltb 0 s.due (omega arith)) (omega arith)
  adds (a_run idle _ _ _ _ _) = rw (le-ltb 0 s.due (omega arith)) (omega arith)
  adds (an_end idle _ _ _) = rw (le-ltb 0 s.due (omega arith)) (omega arith)
  adds (a_fault idle) = rw (le-ltb 0 s.due (omega arith)) (omega arith)

  pub counts_word : (past_word pages list at).cursor.prices ≡ s.prices + length (price_due s w)
  unfolding past_word
  counts_word = adds (word_case pages s at.index w)

  -- and what it takes from the prices that are left
  after : (step : Step)
      → prices_after (prices_from pages (drop (at.index + 1) list) (at.index + 1)) step
      ≡ prices_left pages list (after_word (length list) at step)
  unfolding prices_left
  after (Next t) = refl
  after End = sym (prices_end pages list (length list) s (omega arith))
  after Fault = sym (prices_end pages list (length list) s (omega arith))

  pub left_turn : prices_left pages list at ≡ price_due s w ++ prices_left pages list (past_word pages list at)
  unfolding prices_left past_word
  left_turn =
      let step = word_step pages s at.index w in
      rw (drop-cons list at.index 0 inside, ← add-one at.index)
      (prices_word pages s at.index w (drop (at.index + 1) list) step refl
      ∙ ap (λ ps. price_due s w ++ ps) (after step))

  -- a price only moves the walk on
  pub past_due : 0 < s.due → past_word pages list at ≡ record { cursor = past_price s; index = at.index + 1 }
  unfolding past_word
  past_due due = rw (step_price pages s at.index w due)

  -- the word is a price, or none
  pub left_due : 0 < s.due → prices_left pages list at ≡ priced_word s w ∷ prices_left pages list (past_word pages list at)
  left_due due = left_turn ∙ rw (lt-ltb 0 s.due due)

  pub left_none_due : s.due ≤ 0 → prices_left pages list at ≡ prices_left pages list (past_word pages list at)
  left_none_due idle = left_turn ∙ rw (le-ltb 0 s.due idle)

-- ---- the prices that are due, and a word

module _ (pages : ℕ) (list : List ℕ) (at : Walk) (inside : at.index < length list)
    (reached : Reached pages (length list) at) where
  -- past the prices that are due
  abbrev moved : Walk
  moved = record { cursor = past_prices at.cursor at.cursor.due; index = at.index + at.cursor.due }

  abbrev over : Walk
  over = record { cursor = at.cursor; index = length list }

  run_on : moved.index < length list → past_run pages list at ≡ past_word pages list moved
  unfolding past_run
  run_on more = rw (lt-ltb moved.index (length list) more)

  run_over : length list ≤ moved.index → past_run pages list at ≡ over
  unfolding past_run
  run_over end = rw (le-ltb moved.index (length list) end)

  moved_reached : moved.index < length list → Reached pages (length list) moved
  moved_reached more = omega arith

  pub run_reached : Reached pages (length list) (past_run pages list at)
  run_reached =
      elim (dec_lt moved.index (length list)) [
        | yes more ↦ rw (run_on more) (reached_next pages list moved more (moved_reached more))
        | no end ↦ rw (run_over (omega arith)) (omega arith)
      ]

  pub run_fewer : length list - (past_run pages list at).index < length list - at.index
  run_fewer =
      elim (dec_lt moved.index (length list)) [
        | yes more ↦ rw (run_on more) (omega (arith, fewer_left pages list moved more (moved_reached more)))
        | no end ↦ rw (run_over (omega arith)) (omega arith)
      ]

  -- where no price is due a word is none
  left_idle : (more : moved.index < length list)
      → prices_left pages list moved ≡ prices_left pages list (past_word pages list moved)
  left_idle more = left_turn pages list moved more ∙ rw (le-ltb 0 moved.cursor.due (omega arith))

  -- what is left once they are passed
  pub left_passed : prices_left pages list moved ≡ prices_left pages list (past_run pages list at)
  left_passed =
      elim (dec_lt moved.index (length list)) [
        | yes more ↦ rw (run_on more) (left_idle more)
        | no end ↦
            rw (run_over (omega arith))
            (left_end pages list moved (omega arith) ∙ sym (left_end pages list over (omega arith)))
      ]
