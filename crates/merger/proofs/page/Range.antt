-- Words among so many from a first on.
use Rattle.std.specs.Prelude.{ℕ, ◌+◌, ◌≤◌, ◌<◌, ◌≡◌, true, false}
use Rattle.laws.proofs.Prelude.{sym, ◌∙◌, arith, dec_lt, le-leb, lt-leb, lt-ltb, le-ltb}
use Rattle.merger.specs.Page.{in_range}

module _ (first count word : ℕ) where
  pub in_range_lem : first ≤ word → word < first + count → in_range first count word ≡ true
  in_range_lem low high = rw (le-leb first word low, lt-ltb word (first + count) high)

  pub below : word < first → in_range first count word ≡ false
  below low = rw (lt-leb first word low)

  pub past : first ≤ word → first + count ≤ word → in_range first count word ≡ false
  past low high = rw (le-leb first word low, le-ltb word (first + count) high)

-- two words that are alike in both bounds
pub range_alike : (first count word first' count' word' : ℕ) → (word < first → word' < first')
    → (first ≤ word → first' ≤ word') → (word < first + count → word' < first' + count')
    → (first + count ≤ word → first' + count' ≤ word')
    → in_range first count word ≡ in_range first' count' word'
range_alike first count word first' count' word' low from high end = elim (dec_lt word first) [
  | yes l ↦ below first count word l ∙ sym (below first' count' word' (low l))
  | no f ↦
      let here : first ≤ word = omega arith in
      elim (dec_lt word (first + count)) [
        | yes h ↦ in_range_lem first count word here h ∙ sym (in_range_lem first' count' word' (from here) (high h))
        | no e ↦
            past first count word here (omega arith)
            ∙ sym (past first' count' word' (from here) (end (omega arith)))
      ]
]
