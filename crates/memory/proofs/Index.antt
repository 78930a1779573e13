-- Where a word of a card's area stands in the memory: different cards and offsets have different indices.
use Rattle.std.specs.Prelude.{ℕ, ◌+◌, ◌*◌, ◌/◌, ◌%◌, ◌<◌, ◌≤◌, ◌≡◌, ◌≢◌}
use Rattle.laws.proofs.Prelude.{sym, ap, ◌∙◌, arith}
use native.Mathlib.Nat.{suc-mul, mul-le-mul_right}
use lib.Arith.{digits_div, digits_mod}
use Rattle.memory.specs.Words.{index_of, AreaIn}

-- a memory of one area per card has the area of each card
pub area_in : (size : ℕ) {words cards card : ℕ} → card < cards → words ≡ cards * size → AreaIn words size card
area_in size below whole = omega (arith, rw suc-mul at (mul-le-mul_right size below))

module _ (size card offset : ℕ) where
  pub index_in : {words : ℕ} → AreaIn words size card → offset < size → index_of size card offset < words
  index_in area inside = omega arith

  module _ (card' offset' : ℕ) (inside : offset < size) (inside' : offset' < size) where
    pub index_same_card : index_of size card offset ≡ index_of size card' offset' → card ≡ card'
    index_same_card e = sym (digits_div card inside) ∙ ap (λ (i : ℕ). i / size) e ∙ digits_div card' inside'

    pub index_same_offset : index_of size card offset ≡ index_of size card' offset' → offset ≡ offset'
    index_same_offset e = sym (digits_mod card inside) ∙ ap (λ (i : ℕ). i % size) e ∙ digits_mod card' inside'

-- ---- outside a run: the word at offset' of card' is none of the n words from offset of card on

pub record Outside (size card offset n card' offset' : ℕ) : Type 0 where
  pub apart : (j : ℕ) → j < n → index_of size card' offset' ≢ index_of size card (offset + j)

module _ {size card offset n card' offset' : ℕ} where
  pub outside_other_card : card' ≢ card → offset + n ≤ size → offset' < size
      → Outside size card offset n card' offset'
  outside_other_card other fits inside = record {
    apart = λ j h e. other (index_same_card size card' offset' card (offset + j) inside (omega arith) e);
  }

  pub outside_other_offset : ((j : ℕ) → j < n → offset' ≢ offset + j) → offset + n ≤ size → offset' < size
      → Outside size card offset n card' offset'
  outside_other_offset other fits inside = record {
    apart = λ j h e. other j h (index_same_offset size card' offset' card (offset + j) inside (omega arith) e);
  }

  pub outside_below : offset' < offset → offset + n ≤ size → Outside size card offset n card' offset'
  outside_below below fits = outside_other_offset (λ j h e. omega arith) fits (omega arith)

  pub outside_above : offset + n ≤ offset' → offset' < size → Outside size card offset n card' offset'
  outside_above above inside = outside_other_offset (λ j h e. omega arith) (omega arith) inside

  pub outside_fewer : {few : ℕ} → few ≤ n → Outside size card offset n card' offset'
      → Outside size card offset few card' offset'
  outside_fewer fewer out = record { apart = λ j h. out.apart j (omega arith) }
