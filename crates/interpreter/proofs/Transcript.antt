-- What is printed byte by byte is document 01's transcript, an answer for each line.
use Rattle.std.specs.Prelude.{ℕ, ◌+◌, ◌%◌, ◌^◌, ◌≡◌, List, [], ◌∷◌, ◌++◌, Bool, true, false, eqb, Some}
use Rattle.laws.proofs.Prelude.{refl, sym, ap, ◌∙◌, eqb-true}
use Rattle.std.proofs.Common.{append_assoc, append-nil}
use Rattle.directory.specs.declared.Directory.{Directory}
use Rattle.protocol.specs.Formatting.{formatting}
use Rattle.lines.specs.Line.{fresh_line, line_read}
use Rattle.lines.specs.Grammar.{break_at, lines_of}
use Rattle.lines.proofs.Grammar.{reads_commands}
use Rattle.lines.proofs.Begun.{begun, read_more}
use Rattle.interpreter.specs.Transcript.{Session, session_of, executed, answered, state_after, printed, replies}
use Rattle.interpreter.specs.Transcript.{answers, first_line, PrintsTranscript}
use Rattle.interpreter.proofs.Parts.{prints_in_parts}

-- the first of these lines goes on from p
unfoldable joined : List ℕ → List (List ℕ) → List (List ℕ)
joined [] lines = lines
joined (b ∷ p) [] = (b ∷ p) ∷ []
joined (b ∷ p) (line ∷ lines) = ((b ∷ p) ++ line) ∷ lines

joined-ended : (p : List ℕ) (lines : List (List ℕ)) → joined p ([] ∷ lines) ≡ p ∷ lines
unfolding joined
joined-ended [] lines = refl
joined-ended (b ∷ p) lines = rw append-nil

joined_byte : (p : List ℕ) (b : ℕ) (lines : List (List ℕ))
    → joined p (break_at false b lines) ≡ joined (p ++ b ∷ []) lines
unfolding joined break_at
joined_byte [] b [] = refl
joined_byte [] b (line ∷ lines) = refl
joined_byte (c ∷ p) b [] = refl
joined_byte (c ∷ p) b (line ∷ lines) = ap (λ l. (c ∷ l) ∷ lines) (sym (append_assoc p (b ∷ []) line))

-- ---- from any place of a line

module _ (number : ℕ) (d : Directory) (m : List ℕ) where
  -- p is what has been read of the line
  abbrev at : List ℕ → Session
  at p = session_of d number (line_read (Some fresh_line) p)

  -- its end: the answer, and the next line
  line_ended : (p : List ℕ) (lines : List (List ℕ))
      → answered (at p) m
      ++ answers ((number + 1) % 2 ^ 64) (executed (at p) m).directory (executed (at p) m).memory lines
      ≡ answers number d m (p ∷ lines)
  unfolding answered answers
  line_ended p lines = rw (reads_commands p)

  input_ended : (p : List ℕ) → replies (at p) m [] ≡ answers number d m (joined p [])
  unfolding replies state_after printed joined answers line_read
  input_ended [] = refl
  input_ended (b ∷ p) = rw (begun (Some fresh_line) b p) (sym (append-nil (answered (at (b ∷ p)) m)) ∙ line_ended (b ∷ p) [])

abbrev Prints : List ℕ → Type 0
Prints rest =
    (number : ℕ) (d : Directory) (m p : List ℕ)
    → replies (at number d m p) m rest ≡ answers number d m (joined p (lines_of rest))

at_feed : (bs : List ℕ) → Prints bs → Prints (10 ∷ bs)
unfolding state_after printed lines_of break_at joined line_read
at_feed bs later number d m p =
    let s = at number d m p in
    prints_in_parts s m (10 ∷ []) bs
    ∙ rw append-nil
    (ap (λ l. answered s m ++ l) (later ((number + 1) % 2 ^ 64) (executed s m).directory (executed s m).memory [])
    ∙ line_ended number d m p (lines_of bs)
    ∙ ap (answers number d m) (sym (joined-ended p (lines_of bs))))

at_byte : (b : ℕ) (bs : List ℕ) → eqb b 10 ≡ false → Prints bs → Prints (b ∷ bs)
unfolding state_after printed lines_of
at_byte b bs other later number d m p =
    prints_in_parts (at number d m p) m (b ∷ []) bs
    ∙ rw other
    (ap (λ line. replies (session_of d number line) m bs) (sym (read_more (Some fresh_line) p b))
    ∙ later number d m (p ++ b ∷ [])
    ∙ ap (answers number d m) (sym (joined_byte p b (lines_of bs))))

prints : (rest : List ℕ) → Prints rest
unfolding lines_of
prints [] = λ number d m p. input_ended number d m p
prints (b ∷ bs) = go (eqb b 10) refl (prints bs)
  where
    go : (test : Bool) → eqb b 10 ≡ test → Prints bs → Prints (b ∷ bs)
    go true feed later = rw (eqb-true b 10 feed) (at_feed bs later)
    go false other later = at_byte b bs other later

pub prints_transcript : PrintsTranscript
unfolding line_read joined
prints_transcript m input =
    ap (λ l. first_line ++ l) (prints input 1 (formatting m 3 4).directory (formatting m 3 4).memory [])
