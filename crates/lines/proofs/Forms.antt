-- The fields of a command: its label is small, and it has no more than six.
use Rattle.std.specs.Prelude.{ℕ, ◌≤◌, ◌<◌, ◌≡◌, List, [], ◌∷◌, Bool, true, cond, leb, eqb, length, Option, None}
use Rattle.laws.proofs.Prelude.{refl, sym, ◌∙◌, arith, leb-true}
use Rattle.laws.proofs.Bools.{by_cond, and_first, and_second}
use Rattle.lines.specs.Command.{Command, is_label, open_form, step_form, fail_form, join_form, fetch_form, form_of}

-- the page and the word of a label are small, where a test tells whether it is one
pub label_small : (page word : ℕ) {is : Bool} → is ≡ is_label page word → is ≡ true → (page ≤ 63) × (word ≤ 31)
unfolding is_label
label_small page word says holds =
    let label = sym says ∙ holds in (
      leb-true page 63 (and_first (leb page 63) (leb word 31) label),
      leb-true word 31 (and_second (leb page 63) (leb word 31) label),
    )

seven : (letter a b c d e f : ℕ) (rest : List ℕ) → form_of (letter ∷ a ∷ b ∷ c ∷ d ∷ e ∷ f ∷ rest) ≡ None
unfolding form_of open_form step_form fail_form join_form fetch_form
seven letter a b c d e f rest =
    let none : (test : Bool) (other : Option Command) → other ≡ None → cond test None other ≡ None =
    λ test other is. by_cond (λ (o : Option Command). o ≡ None) test None other (λ _. refl) (λ _. is)
    in
    none (eqb letter 66) _ (none (eqb letter 83) _ (none (eqb letter 88) _ (none (eqb letter 74) _
    (none (eqb letter 70) None refl))))

pub form_long : (fields : List ℕ) → 6 < length fields → form_of fields ≡ None
form_long [] long = absurd (omega arith)
form_long (l ∷ []) long = absurd (omega arith)
form_long (l ∷ a ∷ []) long = absurd (omega arith)
form_long (l ∷ a ∷ b ∷ []) long = absurd (omega arith)
form_long (l ∷ a ∷ b ∷ c ∷ []) long = absurd (omega arith)
form_long (l ∷ a ∷ b ∷ c ∷ d ∷ []) long = absurd (omega arith)
form_long (l ∷ a ∷ b ∷ c ∷ d ∷ e ∷ []) long = absurd (omega arith)
form_long (l ∷ a ∷ b ∷ c ∷ d ∷ e ∷ f ∷ rest) long = seven l a b c d e f rest
