-- What prices do to a label, one label at a time.
use Rattle.std.specs.Prelude.{ℕ, ◌*◌, ◌<◌, ◌≤◌, ◌≡◌, ◌≢◌, List, [], ◌∷◌, ◌++◌, true, false, cond, ◌||◌, length, get_or}
use Rattle.std.specs.Prelude.{set, eqb}
use Rattle.laws.proofs.Prelude.{refl, sym, ◌∙◌, true≢false, arith, ℕ_discrete, eq-eqb, ne_eqb}
use lib.ListN.{length-set}
use lib.Seq.{get_or-set_same, get_or-set_other}
use Rattle.diff.specs.Prices.{Price, label_of, names, applied_at, apply_prices}
use Rattle.diff.proofs.Encoding.{Ascending, none, more}

-- ---- a label that prices name

module _ (p : Price) (ps : List Price) (label : ℕ) where
  pub names-first : label_of p ≡ label → names (p ∷ ps) label ≡ true
  unfolding names
  names-first e = rw (eq-eqb (label_of p) label e)

  pub names_later : label_of p ≢ label → names (p ∷ ps) label ≡ names ps label
  unfolding names
  names_later n = rw (ne_eqb (label_of p) label n)

pub names_none : (label : ℕ) → names [] label ≡ false
unfolding names
names_none label = refl

pub names-append : (ps qs : List Price) (label : ℕ) → names (ps ++ qs) label ≡ (names ps label || names qs label)
names-append [] qs label = rw (names_none label)
names-append (p ∷ ps) qs label = elim (ℕ_discrete (label_of p) label) [
  | yes here ↦ names-first p (ps ++ qs) label here ∙ sym (rw (names-first p ps label here))
  | no there ↦
      names_later p (ps ++ qs) label there ∙ names-append ps qs label ∙ sym (rw (names_later p ps label there))
]

-- ---- the price of a label after prices are applied to it

module _ (p : Price) (ps : List Price) (label price : ℕ) where
  pub applied_first : label_of p ≡ label → applied_at (p ∷ ps) label price ≡ applied_at ps label p.price
  unfolding applied_at
  applied_first e = rw (eq-eqb (label_of p) label e)

  pub applied_later : label_of p ≢ label → applied_at (p ∷ ps) label price ≡ applied_at ps label price
  unfolding applied_at
  applied_later n = rw (ne_eqb (label_of p) label n)

pub applied_none : (label price : ℕ) → applied_at [] label price ≡ price
unfolding applied_at
applied_none label price = refl

-- prices one after the other
pub applied_append : (ps qs : List Price) (label price : ℕ)
    → applied_at (ps ++ qs) label price ≡ applied_at qs label (applied_at ps label price)
unfolding applied_at
applied_append [] qs label price = refl
applied_append (p ∷ ps) qs label price = applied_append ps qs label (cond (eqb (label_of p) label) p.price price)

-- a label that the prices do not name keeps its price
pub applied_unnamed : (ps : List Price) (label price : ℕ) → names ps label ≡ false → applied_at ps label price ≡ price
applied_unnamed [] label price unnamed = applied_none label price
applied_unnamed (p ∷ ps) label price unnamed =
    go (ℕ_discrete (label_of p) label) (applied_unnamed ps label price)
  where
    go : Dec (label_of p ≡ label) → (names ps label ≡ false → applied_at ps label price ≡ price)
        → applied_at (p ∷ ps) label price ≡ price
    go (yes here) rest = absurd (true≢false (sym (names-first p ps label here) ∙ unnamed))
    go (no there) rest = applied_later p ps label price there ∙ rest (sym (names_later p ps label there) ∙ unnamed)

-- and one that they name has the same price after them, whatever it had
pub applied_named : (ps : List Price) (label price price' : ℕ) → names ps label ≡ true
    → applied_at ps label price ≡ applied_at ps label price'
applied_named [] label price price' named = absurd (true≢false (sym named ∙ names_none label))
applied_named (p ∷ ps) label price price' named = elim (ℕ_discrete (label_of p) label) [
  | yes here ↦ applied_first p ps label price here ∙ sym (applied_first p ps label price' here)
  | no there ↦
      applied_later p ps label price there
      ∙ applied_named ps label price price' (sym (names_later p ps label there) ∙ named)
      ∙ sym (applied_later p ps label price' there)
]

-- labels below ascending prices keep theirs
pub applied_below : {pages next : ℕ} {ps : List Price} → Ascending pages next ps → (label price : ℕ) → label < next
    → applied_at ps label price ≡ price
applied_below none label price below = applied_none label price
applied_below (more {p = p} {ps = ps} up _ _ rest) label price below =
    applied_later p ps label price (omega arith) ∙ applied_below rest label price (omega arith)

pub names_below : {pages next : ℕ} {ps : List Price} → Ascending pages next ps → (label : ℕ) → label < next
    → names ps label ≡ false
names_below none label below = names_none label
names_below (more {p = p} {ps = ps} up _ _ rest) label below =
    names_later p ps label (omega arith) ∙ names_below rest label (omega arith)

-- and labels past the pages of ascending prices are not named
pub names_past : {pages next : ℕ} {ps : List Price} → Ascending pages next ps → (label : ℕ) → 32 * pages ≤ label
    → names ps label ≡ false
names_past none label past = names_none label
names_past (more {p = p} {ps = ps} _ word page rest) label past =
    names_later p ps label (omega arith) ∙ names_past rest label past

-- ---- pages with prices applied to them

pub length_apply : (ps : List Price) (words : List ℕ) → length (apply_prices ps words) ≡ length words
unfolding apply_prices
length_apply [] words = refl
length_apply (p ∷ ps) words =
    length_apply ps (set words (label_of p) p.price) ∙ length-set words (label_of p) p.price

pub apply_append : (ps qs : List Price) (words : List ℕ)
    → apply_prices (ps ++ qs) words ≡ apply_prices qs (apply_prices ps words)
unfolding apply_prices
apply_append [] qs words = refl
apply_append (p ∷ ps) qs words = apply_append ps qs (set words (label_of p) p.price)

pub apply_at : (ps : List Price) (words : List ℕ) (label : ℕ) → label < length words
    → get_or (apply_prices ps words) label 0 ≡ applied_at ps label (get_or words label 0)
unfolding apply_prices
apply_at [] words label within = sym (applied_none label (get_or words label 0))
apply_at (p ∷ ps) words label within =
    apply_at ps (set words (label_of p) p.price) label (rw length-set within) ∙ go (ℕ_discrete (label_of p) label)
  where
    go : Dec (label_of p ≡ label)
        → applied_at ps label (get_or (set words (label_of p) p.price) label 0) ≡ applied_at (p ∷ ps) label
        (get_or words label 0)
    go (yes same) =
        rw (same, get_or-set_same words label p.price 0 within)
        (sym (applied_first p ps label (get_or words label 0) same))
    go (no other) =
        rw (get_or-set_other words (label_of p) label p.price 0 (λ e. other (sym e)))
        (sym (applied_later p ps label (get_or words label 0) other))
