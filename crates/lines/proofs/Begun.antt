-- A line has begun once a byte of it has been read.
use Rattle.std.specs.Prelude.{ℕ, ◌+◌, ◌≡◌, List, [], ◌∷◌, ◌++◌, Bool, true, false, cond, ltb, leb, eqb, Option, None, Some}
use Rattle.laws.proofs.Prelude.{refl, arith, ne_eqb}
use Rattle.laws.proofs.Bools.{by_cond}
use Rattle.lines.specs.Line.{Line, ended_field, with_field, number_with, letter_read, digit_read}
use Rattle.lines.specs.Line.{byte_read, line_read, has_begun}

-- the same either way
either : (test : Bool) → cond test true true ≡ true
either true = refl
either false = refl

abbrev Begun : Option Line → Type 0
Begun s = has_begun s ≡ true

module _ (s : Line) (b : ℕ) where
  -- past the letter's field
  counted : (t : Line) → eqb t.count 0 ≡ false → Begun (Some t)
  counted t some = rw some

  field-ended : Begun (ended_field s)
  unfolding ended_field
  field-ended =
      by_cond Begun (eqb s.bytes 0) None _ (λ _. refl)
      (λ _. by_cond Begun (ltb s.count 6) _ None (λ _. rw (ne_eqb (s.count + 1) 0 (λ e. omega arith))) (λ _. refl))

  letter : Begun (letter_read s b)
  unfolding letter_read
  letter = by_cond Begun (eqb s.bytes 0) (Some (with_field s 1 b)) None (λ _. either (eqb s.count 0)) (λ _. refl)

  digit : eqb s.count 0 ≡ false → Begun (digit_read s b)
  unfolding digit_read
  digit some =
      by_cond Begun (ltb b 48) None _ (λ _. refl)
      (λ _. by_cond Begun (ltb 57 b) None _ (λ _. refl)
      (λ _. by_cond Begun (leb 10 s.bytes) None _ (λ _. refl)
      (λ _. by_cond Begun (ltb 4294967295 (number_with s b)) None _ (λ _. refl)
      (λ _. counted (with_field s (s.bytes + 1) (number_with s b)) some))))

begun_byte : (s : Option Line) (b : ℕ) → Begun (byte_read s b)
unfolding byte_read
begun_byte None b = refl
begun_byte (Some s) b =
    by_cond Begun (eqb b 32) (ended_field s) _ (λ _. field-ended s b)
    (λ _. by_cond Begun (eqb s.count 0) (letter_read s b) (digit_read s b) (λ _. letter s b) (digit s b))

begun_line : (s : Option Line) (line : List ℕ) → Begun s → Begun (line_read s line)
unfolding line_read
begun_line s [] begun = begun
begun_line s (b ∷ bs) begun = begun_line (byte_read s b) bs (begun_byte s b)

pub begun : (s : Option Line) (b : ℕ) (line : List ℕ) → has_begun (line_read s (b ∷ line)) ≡ true
unfolding line_read
begun s b line = begun_line (byte_read s b) line (begun_byte s b)

-- one byte more
pub read_more : (s : Option Line) (line : List ℕ) (b : ℕ) → line_read s (line ++ b ∷ []) ≡ byte_read (line_read s line) b
unfolding line_read
read_more s [] b = refl
read_more s (c ∷ cs) b = read_more (byte_read s c) cs b
