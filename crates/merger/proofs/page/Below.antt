-- The marked words of a page below one of its words: none, all, and those of one run more.
use Rattle.std.specs.Prelude.{ℕ, ◌+◌, ◌-◌, ◌/◌, ◌^◌, ◌≤◌, ◌<◌, ◌≡◌, Bool, true, false, ◌&&◌, ◌||◌, ltb}
use Rattle.laws.proofs.Prelude.{sym, ap, ◌∙◌, arith, dec_lt, eq-eqb, ne_eqb, lt-ltb, le-ltb}
use mathlib.Core.Bool.{or-false}
use Rattle.diff.specs.Marks.{bit, is_set}
use Rattle.diff.proofs.Bits.{bit_shifted}
use Rattle.encoder.specs.Page.{FirstRun}
use Rattle.encoder.proofs.Runs.{bit_behind}
use Rattle.merger.specs.Page.{in_range}
use Rattle.merger.proofs.page.Range.{in_range_lem, below, past}

abbrev pub up_to : ℕ → ℕ → ℕ → Bool
up_to own word w = ltb w word && is_set own w

pub up_to_none : (own w : ℕ) → up_to own 0 w ≡ false
up_to_none own w = rw (le-ltb w 0 (omega arith))

-- all of them, where no mark is left
pub up_to_all : (own word w : ℕ) → own / 2 ^ word ≡ 0 → up_to own word w ≡ is_set own w
up_to_all own word w none_left = elim (dec_lt w word) [
  | yes low ↦ rw (lt-ltb w word low)
  | no high ↦
      rw (le-ltb w word (omega arith))
      (sym (ne_eqb (bit own w) 1 (omega (arith, bit_behind own word w none_left (omega arith)))))
]

-- and those of one run more
module _ (own word o n : ℕ) (is : FirstRun (own / 2 ^ word) (record { offset = o; count = n })) where
  abbrev start : ℕ
  start = word + o

  before_run : (w : ℕ) → word ≤ w → w < start → is_set own w ≡ false
  before_run w low high =
      let at : word + (w - word) ≡ w = omega arith in
      let unmarked = ap (bit own) (sym at) ∙ sym (bit_shifted own word (w - word)) ∙ is.none_before (w - word) (omega arith) in
      ne_eqb (bit own w) 1 (omega (arith, unmarked))

  in_run : (w : ℕ) → start ≤ w → w < start + n → is_set own w ≡ true
  in_run w low high =
      let at : word + (o + (w - start)) ≡ w = omega arith in
      eq-eqb (bit own w) 1
      (ap (bit own) (sym at) ∙ sym (bit_shifted own word (o + (w - start)))
      ∙ is.all_marked (w - start) (omega arith))

  pub up_to_run : (w : ℕ) → up_to own (start + n) w ≡ (up_to own word w || in_range start n w)
  up_to_run w = elim (dec_lt w start) [
    | yes low ↦
        rw (below start n w low, lt-ltb w (start + n) (omega arith))
        (elim (dec_lt w word) [
          | yes lower ↦ rw (lt-ltb w word lower) (sym (or-false (is_set own w)))
          | no higher ↦ rw (le-ltb w word (omega arith)) (before_run w (omega arith) low)
        ])
    | no high ↦
        rw (le-ltb w word (omega arith))
        (elim (dec_lt w (start + n)) [
          | yes inside ↦
              rw (in_range_lem start n w (omega arith) inside, lt-ltb w (start + n) inside)
              (in_run w (omega arith) inside)
          | no behind ↦
              rw (past start n w (omega arith) (omega arith), le-ltb w (start + n) (omega arith))
        ])
  ]
