-- A line that is read on from its letter comes to what the grammar has for it, byte by byte.
use Rattle.std.specs.Prelude.{ℕ, ◌+◌, ◌≤◌, ◌<◌, ◌≡◌, List, [], ◌∷◌, ◌++◌, Bool, true, false, cond, ltb, leb, eqb}
use Rattle.std.specs.Prelude.{length, Option, None, Some}
use Rattle.laws.proofs.Prelude.{refl, sym, ap, ◌∙◌, arith, eq-eqb, ne_eqb, le-leb, lt-leb, lt-ltb, le-ltb, eqb-true}
use mathlib.Core.List.{append_assoc}
use lib.ListN.{length-append}
use Rattle.laws.proofs.Bools.{by_cond}
use Rattle.lines.specs.declared.Command.{Command}
use Rattle.lines.specs.Line.{Line, ended_field, with_field, number_with, digit_read, byte_read}
use Rattle.lines.specs.Line.{line_read}
use Rattle.lines.specs.Command.{form_of, form_after, command_of}
use Rattle.lines.specs.Grammar.{break_at, fields_of, is_digit, all_digits, number_from, all_numbers, values_of}
use Rattle.lines.proofs.Forms.{form_long}
use Rattle.lines.proofs.Unreadable.{first, second, below_or_not, dead}
use Rattle.lines.proofs.Numbers.{by_fields, continues, starts, no_digit, too_long, too_large, one_more, done}
use Rattle.lines.proofs.FieldsRead.{FieldsRead, resumed, ended, ended-field, no_seventh, fields_read_ended}
use Rattle.lines.proofs.FieldsRead.{at_end}

-- the parts of a line that is read on, by the next byte
module _ (s : Line) (vs : List ℕ) (fields_read : FieldsRead s vs) where
  abbrev Resumes : List ℕ → Type 0
  Resumes rest = command_of (line_read (Some s) rest) ≡ resumed vs s.bytes s.value (fields_of rest)

  no_byte : s.bytes ≡ 0 → ended_field s ≡ None
  unfolding ended_field
  no_byte zero-bytes = first (eqb s.bytes 0) _ _ (eq-eqb s.bytes 0 zero-bytes)

  empty_end : s.bytes ≡ 0 → command_of (Some s) ≡ None
  unfolding command_of
  empty_end zero-bytes =
      ap form_after (no_byte zero-bytes)

  -- an empty field is no number, whatever follows
  no_number : s.bytes ≡ 0 → (fs : List (List ℕ)) → resumed vs s.bytes s.value ([] ∷ fs) ≡ None
  unfolding resumed all_digits number_from
  no_number zero-bytes fs = rw zero-bytes

  -- a field of digits is one
  a_number : 1 ≤ s.bytes → (fs : List (List ℕ))
      → resumed vs s.bytes s.value ([] ∷ fs)
      ≡ cond (all_numbers fs) (form_of (vs ++ s.value ∷ values_of fs)) None
  unfolding resumed number_from
  a_number some fs = rw (done s.bytes s.value some fields_read.few fields_read.small)

  resume_end : Resumes []
  unfolding line_read fields_of all_numbers values_of
  resume_end =
      below_or_not 0 s.bytes (λ some. at_end s vs fields_read some ∙ sym (a_number some []))
      (λ empty. empty_end (omega arith) ∙ sym (no_number (omega arith) []))

  -- what is read next decides, whatever line it leaves
  abbrev goes_to : {next : Option Line} {c : Option Command} (b : ℕ) (bs : List ℕ) → byte_read (Some s) b ≡ next
      → command_of (line_read next bs) ≡ c → command_of (line_read (byte_read (Some s) b) bs) ≡ c
  goes_to b bs reads comes = ap (λ (t : Option Line). command_of (line_read t bs)) reads ∙ comes

  abbrev Later : List ℕ → Type 0
  Later bs =
      (t : Line) (us : List ℕ) → FieldsRead t us
      → command_of (line_read (Some t) bs) ≡ resumed us t.bytes t.value (fields_of bs)

  -- ---- a space ends the field

  at_space : byte_read (Some s) 32 ≡ ended_field s
  unfolding byte_read
  at_space = refl

  next_field : 1 ≤ s.bytes → (f : List ℕ) (fs : List (List ℕ))
      → resumed (vs ++ s.value ∷ []) 0 0 (f ∷ fs) ≡ resumed vs s.bytes s.value ([] ∷ f ∷ fs)
  unfolding resumed all_numbers values_of
  next_field some f fs = rw (starts f, append_assoc) (sym (a_number some (f ∷ fs)))

  seven_fields : 1 ≤ s.bytes → 6 ≤ s.count → (fs : List (List ℕ))
      → resumed vs s.bytes s.value ([] ∷ fs) ≡ None
  seven_fields some full fs =
      let fields = vs ++ s.value ∷ values_of fs in
      let long : 6 < length fields = simp length-append (omega (arith, fields_read.count)) in
      a_number some fs
      ∙ by_cond (λ (c : Option Command). c ≡ None) (all_numbers fs) (form_of fields) None
      (λ _. form_long fields long) (λ _. refl)

  resume_space : (bs : List ℕ) → Later bs → Resumes (32 ∷ bs)
  unfolding line_read fields_of break_at
  resume_space bs later =
      below_or_not 0 s.bytes
      (λ some.
      below_or_not s.count 6
      (λ room.
      goes_to 32 bs (at_space ∙ ended-field s vs fields_read some room)
      (later (ended s vs fields_read some) (vs ++ s.value ∷ []) (fields_read_ended s vs fields_read some room)
      ∙ by_fields
      (λ fs. resumed (vs ++ s.value ∷ []) 0 0 fs ≡ resumed vs s.bytes s.value ([] ∷ fs))
      (next_field some) bs))
      (λ full.
      goes_to 32 bs (at_space ∙ no_seventh s vs fields_read some full)
      (dead bs ∙ sym (seven_fields some full (fields_of bs)))))
      (λ empty.
      goes_to 32 bs (at_space ∙ no_byte (omega arith))
      (dead bs ∙ sym (no_number (omega arith) (fields_of bs))))

  -- ---- any other byte goes on with the field

  module _ (b : ℕ) (bs : List ℕ) (other : eqb b 32 ≡ false) where
    at_byte : byte_read (Some s) b ≡ digit_read s b
    unfolding byte_read
    at_byte =
        second (eqb b 32) _ _ other
        ∙ second (eqb s.count 0) _ _
        (ne_eqb s.count 0 (λ e. omega (arith, fields_read.count, fields_read.begun)))

    -- a byte after which no field is a number
    refused : digit_read s b ≡ None → ((f : List ℕ) → continues s.bytes s.value (b ∷ f) ≡ false)
        → Resumes (b ∷ bs)
    unfolding line_read fields_of break_at resumed
    refused reads wrong =
        goes_to b bs (at_byte ∙ reads)
        (dead bs
        ∙ rw other
        (by_fields (λ fs. None ≡ resumed vs s.bytes s.value (break_at false b fs)) (λ f fs. rw (wrong f))
        bs))

    low_byte : b < 48 → Resumes (b ∷ bs)
    unfolding digit_read
    low_byte low =
        refused (first (ltb b 48) _ _ (lt-ltb b 48 low))
        (λ f. no_digit s.bytes s.value b f (rw (lt-leb 48 b low)))

    module _ (from : 48 ≤ b) where
      high_byte : 57 < b → Resumes (b ∷ bs)
      unfolding digit_read
      high_byte high =
          refused (second (ltb b 48) _ _ (le-ltb b 48 from) ∙ first (ltb 57 b) _ _ (lt-ltb 57 b high))
          (λ f. no_digit s.bytes s.value b f (rw (le-leb 48 b from, lt-leb b 57 high)))

      module _ (upto : b ≤ 57) where
        a_digit : is_digit b ≡ true
        a_digit = rw (le-leb 48 b from, le-leb b 57 upto)

        past_tests : {e : Option Line} → cond (leb 10 s.bytes) None
            (cond (ltb 4294967295 (number_with s b)) None (Some (with_field s (s.bytes + 1) (number_with s b))))
            ≡ e
            → digit_read s b ≡ e
        unfolding digit_read
        past_tests rest =
            second (ltb b 48) _ _ (le-ltb b 48 from) ∙ second (ltb 57 b) _ _ (le-ltb 57 b upto) ∙ rest

        eleventh : 10 ≤ s.bytes → Resumes (b ∷ bs)
        eleventh long =
            refused (past_tests (first (leb 10 s.bytes) _ _ (le-leb 10 s.bytes long)))
            (λ f. too_long s.bytes s.value b f long)

        too_high_lem : s.bytes < 10 → 4294967295 < number_with s b → Resumes (b ∷ bs)
        too_high_lem short large =
            refused
            (past_tests
            (second (leb 10 s.bytes) _ _ (lt-leb 10 s.bytes short)
            ∙ first (ltb 4294967295 (number_with s b)) _ _ (lt-ltb 4294967295 (number_with s b) large)))
            (λ f. too_large s.bytes s.value b f large)

        one_digit : s.bytes < 10 → number_with s b ≤ 4294967295 → Later bs → Resumes (b ∷ bs)
        unfolding line_read fields_of break_at resumed number_from
        one_digit short fits later =
            let next = with_field s (s.bytes + 1) (number_with s b) in
            let goes = past_tests
            (second (leb 10 s.bytes) _ _ (lt-leb 10 s.bytes short)
            ∙ second (ltb 4294967295 (number_with s b)) _ _ (le-ltb 4294967295 (number_with s b) fits))
            in
            let fields-read-next : FieldsRead next vs =
            record {
              count = fields_read.count;
              front = fields_read.front;
              six = fields_read.six;
              begun = fields_read.begun;
              few = omega arith;
              small = fits;
            }
            in
            goes_to b bs (at_byte ∙ goes)
            (later next vs fields-read-next
            ∙ rw other
            (by_fields
            (λ fs.
            resumed vs (s.bytes + 1) (number_with s b) fs ≡ resumed vs s.bytes s.value (break_at false b fs))
            (λ f fs. rw (one_more s.bytes s.value b f a_digit)) bs))

    resume_byte : Later bs → Resumes (b ∷ bs)
    resume_byte later =
        below_or_not b 48 low_byte
        (λ from.
        below_or_not 57 b (high_byte from)
        (λ upto.
        below_or_not s.bytes 10
        (λ short.
        below_or_not 4294967295 (number_with s b) (too_high_lem from upto short)
        (λ fits. one_digit from upto short fits later))
        (eleventh from upto)))

pub resume : (rest : List ℕ) (s : Line) (vs : List ℕ) → FieldsRead s vs
    → command_of (line_read (Some s) rest) ≡ resumed vs s.bytes s.value (fields_of rest)
resume [] s vs fields_read = resume_end s vs fields_read
resume (b ∷ bs) s vs fields_read = go (eqb b 32) refl (resume bs)
  where
    go : (test : Bool) → eqb b 32 ≡ test → Later s vs fields_read bs → Resumes s vs fields_read (b ∷ bs)
    go true space later = rw (eqb-true b 32 space) (resume_space s vs fields_read bs later)
    go false other later = resume_byte s vs fields_read b bs other later
