-- Regions of a card's area: which words each has, and that records stand apart. A word of the area is named by its
-- offset.
use Rattle.std.specs.Prelude.{ℕ, ◌+◌, ◌≤◌, ◌<◌, ◌≢◌, ◌⊎◌}
use Rattle.laws.proofs.Prelude.{inl, inr, arith, dec_lt}
use Rattle.memory.proofs.Index.{Outside, outside_other_card, outside_other_offset}
use Rattle.area.specs.Layout.{number_size, desk_size, own_stamp, own_size, open_flag, release_size, record_at}
use Rattle.area.specs.Layout.{record_size, record_stamp, record_done, record_desk, list_start, list_size, page_at}
use Rattle.area.specs.Layout.{page_size, stored_page_size}

-- words that follow one another
pub record Region : Type 0 where
  pub start : ℕ
  pub size : ℕ

abbrev pub region : ℕ → ℕ → Region
region start size = record { start = start; size = size }

abbrev pub In : Region → ℕ → Type 0
In r o = (r.start ≤ o) × (o < r.start + r.size)

abbrev pub NotIn : Region → ℕ → Type 0
NotIn r o = In r o → ⊥

pub in_or_not : (r : Region) (o : ℕ) → In r o ⊎ NotIn r o
in_or_not r o =
    elim (dec_lt o r.start) [
      | yes under ↦ inr (λ inside. omega arith)
      | no past ↦
          elim (dec_lt o (r.start + r.size)) [
            | yes within ↦ inl (omega arith, within)
            | no above ↦ inr (λ inside. omega arith)
          ]
    ]

-- one region lies in another
abbrev pub Contains : Region → Region → Type 0
Contains r inner = (r.start ≤ inner.start) × (inner.start + inner.size ≤ r.start + r.size)

-- outside a region of one card: a word of another card, or one that is known not to be in it
pub outside : {A : Type 0} {size card h o : ℕ} (r : Region) → (h ≢ card) ⊎ A → (A → NotIn r o)
    → r.start + r.size ≤ size → o < size → Outside size card r.start r.size h o
outside r (inl other) known fits inside = outside_other_card other fits inside
outside r (inr a) known fits inside =
    outside_other_offset (λ j within e. known a (omega arith, omega arith)) fits inside

-- ---- the regions of document 01's table

abbrev pub own_region : Region
own_region = region own_stamp own_size

abbrev pub open_region : Region
open_region = region open_flag release_size

abbrev pub record_region : ℕ → Region
record_region c = region (record_at c) record_size

abbrev pub list_region : Region
list_region = region list_start list_size

abbrev pub page_region : ℕ → Region
page_region p = region (page_at p) stored_page_size

-- a half of a page, by its place in the page
abbrev pub half_region : ℕ → ℕ → Region
half_region p half = region (page_at p + half) page_size

-- ---- records

-- those of two cards have no word in common
pub records_apart : {c c' o : ℕ} → c ≢ c' → In (record_region c) o → NotIn (record_region c') o
records_apart {c} {c'} other here there =
    elim (dec_lt c c') [
      | yes less ↦ omega arith
      | no more ↦ omega arith
    ]

-- the words of a record: stamp, done mark, desks
pub stamp_in : (c j : ℕ) → j < number_size → In (record_region c) (record_stamp c + j)
stamp_in c j within = (omega arith, omega arith)

pub done_in : (c j : ℕ) → j < number_size → In (record_region c) (record_done c + j)
done_in c j within = (omega arith, omega arith)

pub desk_in : (c number j : ℕ) → j < desk_size → In (record_region c) (record_desk c number + j)
desk_in c number j within = (omega arith, omega arith)
