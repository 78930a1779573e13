-- Ascending prices are told apart by the labels that they name and the prices that they set.
use Rattle.std.specs.Prelude.{ℕ, ◌+◌, ◌<◌, ◌≤◌, ◌≡◌, List, ◌∷◌, true}
use Rattle.laws.proofs.Prelude.{refl, sym, ap, ◌∙◌, true≢false, arith, dec_lt}
use Rattle.diff.specs.Prices.{Price, label_of, names, applied_at}
use Rattle.diff.proofs.Encoding.{Ascending, none, more}
use Rattle.diff.proofs.Prices.{names-first, names_later, names_none, names_below, applied_first, applied_later}
use Rattle.diff.proofs.Prices.{applied_below}

pub record SamePrices (ps qs : List Price) : Type 0 where
  pub named : (label : ℕ) → names ps label ≡ names qs label
  pub priced : (label : ℕ) → names ps label ≡ true → applied_at ps label 0 ≡ applied_at qs label 0

price_same : (p q : Price) → p.page ≡ q.page → p.word ≡ q.word → p.price ≡ q.price → p ≡ q
price_same p q page word price = go q.page q.word q.price page word price
  where
    go : (page word price : ℕ) → p.page ≡ page → p.word ≡ word → p.price ≡ price
        → p ≡ record { page = page; word = word; price = price }
    go page word price a b c = rw (← a, ← b, ← c)

named_above : {pages next : ℕ} {ps : List Price} → Ascending pages next ps → (label : ℕ) → names ps label ≡ true
    → next ≤ label
named_above {next = next} up label is = elim (dec_lt label next) [
  | yes below ↦ absurd (true≢false (sym is ∙ names_below up label below))
  | no above ↦ omega arith
]

-- where two lists of ascending prices name and set the same, so do their first prices, and the others
module _ {pages : ℕ} (p q : Price) (ps qs : List Price) (word : p.word < 32) (word' : q.word < 32)
    (page : p.page < pages) (page' : q.page < pages) (up : Ascending pages (label_of p + 1) ps)
    (up' : Ascending pages (label_of q + 1) qs) (same : SamePrices (p ∷ ps) (q ∷ qs)) where
  first_label : label_of p ≡ label_of q
  first_label =
      let low = named_above (more {next = label_of p} {p = p} (omega arith) word page up) (label_of q)
      (same.named (label_of q) ∙ names-first q qs (label_of q) refl) in
      let low' = named_above (more {next = label_of q} {p = q} (omega arith) word' page' up') (label_of p)
      (sym (same.named (label_of p)) ∙ names-first p ps (label_of p) refl) in
      omega arith

  first_price : p.price ≡ q.price
  first_price =
      sym (applied_below up (label_of p) p.price (omega arith))
      ∙ sym (applied_first p ps (label_of p) 0 refl)
      ∙ same.priced (label_of p) (names-first p ps (label_of p) refl)
      ∙ applied_first q qs (label_of p) 0 (sym first_label)
      ∙ applied_below up' (label_of p) q.price (omega (arith, first_label))

  first_same : p ≡ q
  first_same =
      price_same p q (omega (arith, first_label, word, word')) (omega (arith, first_label, word, word')) first_price

  others_up : Ascending pages (label_of p + 1) qs
  others_up = rw first_label up'

  others_same : SamePrices ps qs
  others_same =
      record {
        named = λ label. elim (dec_lt (label_of p) label) [
          | yes above ↦
              sym (names_later p ps label (omega arith)) ∙ same.named label
              ∙ names_later q qs label (omega (arith, first_label))
          | no below ↦
              names_below up label (omega arith) ∙ sym (names_below others_up label (omega arith))
        ];
        priced = λ label is.
            let above = named_above up label is in
            sym (applied_later p ps label 0 (omega arith))
            ∙ same.priced label (names_later p ps label (omega arith) ∙ is)
            ∙ applied_later q qs label 0 (omega (arith, first_label));
      }

pub ascending_same : {pages next : ℕ} {ps qs : List Price} → Ascending pages next ps → Ascending pages next qs
    → SamePrices ps qs → ps ≡ qs
ascending_same none none same = refl
ascending_same none (more {p = q} {ps = qs} _ _ _ _) same =
    absurd (true≢false (sym (same.named (label_of q) ∙ names-first q qs (label_of q) refl) ∙ names_none (label_of q)))
ascending_same (more {p = p} {ps = ps} _ _ _ _) none same =
    absurd (true≢false (sym (names-first p ps (label_of p) refl) ∙ same.named (label_of p) ∙ names_none (label_of p)))
ascending_same
    (more {p = p} {ps = ps} _ word page rest) (more {p = q} {ps = qs} _ word' page' rest') same =
    rw (first_same p q ps qs word word' page page' rest rest' same)
    (ap (λ (l : List Price). q ∷ l)
    (ascending_same rest (others_up p q ps qs word word' page page' rest rest' same)
    (others_same p q ps qs word word' page page' rest rest' same)))
