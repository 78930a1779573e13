-- Bytes of the input one after the other; and a part of it up to a line feed: the state after it, and what it prints.
use Rattle.std.specs.Prelude.{ℕ, zero, suc, ◌+◌, ◌-◌, ◌≤◌, ◌<◌, ◌≡◌, List, [], ◌∷◌, ◌++◌, Bool, true, false, eqb}
use Rattle.std.specs.Prelude.{length, take, drop, get_or}
use Rattle.laws.proofs.Prelude.{refl, sym, ap, ◌∙◌, arith, eqb-true}
use Rattle.std.proofs.Common.{append_assoc, append-nil, zero-add, length-append, length-drop, take-suc, take-add}
use lib.Seq.{sets}
use Rattle.laws.proofs.Lists.{sets-append}
use Rattle.lines.specs.Line.{byte_read}
use Rattle.lines.specs.declared.Part.{Part}
use Rattle.lines.specs.Command.{part_from}
use Rattle.interpreter.specs.Transcript.{Session, with_line, executed, answered, next_line, replies, PrintsInParts}
use Rattle.interpreter.specs.Transcript.{State, state_of, byte_taken, byte_printed, state_after, printed}

-- ---- two parts of the input

pub state_append : (t : State) (part rest : List ℕ) → state_after t (part ++ rest) ≡ state_after (state_after t part) rest
unfolding state_after
state_append t [] rest = refl
state_append t (b ∷ bs) rest = state_append (byte_taken t b) bs rest

pub printed-append : (t : State) (part rest : List ℕ)
    → printed t (part ++ rest) ≡ printed t part ++ printed (state_after t part) rest
unfolding state_after printed
printed-append t [] rest = refl
printed-append t (b ∷ bs) rest =
    ap (λ l. byte_printed t b ++ l) (printed-append (byte_taken t b) bs rest)
    ∙ sym (append_assoc (byte_printed t b) (printed (byte_taken t b) bs) (printed (state_after (byte_taken t b) bs) rest))

pub prints_in_parts : PrintsInParts
unfolding replies
prints_in_parts s m part rest =
    rw (printed-append (state_of s m) part rest, state_append (state_of s m) part rest, append_assoc)

-- ---- a part that ends at a line feed, or at the end of a list that starts at an index

pub record Ends (s : Session) (m list : List ℕ) (at : ℕ) (p : Part) : Type 0 where
  pub from : at ≤ p.at
  pub within : p.at ≤ at + length list
  pub feed : p.at < at + length list → get_or list (p.at - at) 0 ≡ 10
  pub state : state_after (state_of s m) (take (p.at - at) list) ≡ state_of (with_line s p.line) m
  pub silent : printed (state_of s m) (take (p.at - at) list) ≡ []

module _ (m : List ℕ) where
  stops : (s : Session) (list : List ℕ) (at : ℕ) → (0 < length list → get_or list 0 0 ≡ 10)
      → Ends s m list at (record { line = s.line; at = at })
  unfolding state_after printed
  stops s list at feeds =
      let none : at - at ≡ 0 = omega arith in
      record {
        from = omega arith;
        within = omega arith;
        feed = λ some. rw none (feeds (omega arith));
        state = rw none;
        silent = rw none;
      }

  -- a byte that is no line feed
  byte_state : (s : Session) (b : ℕ) (bs : List ℕ) → eqb b 10 ≡ false
      → state_after (state_of s m) (b ∷ bs) ≡ state_after (state_of (with_line s (byte_read s.line b)) m) bs
  unfolding state_after
  byte_state s b bs other =
      let read : byte_taken (state_of s m) b ≡ state_of (with_line s (byte_read s.line b)) m = rw other in
      ap (λ t. state_after t bs) read

  byte_silent : (s : Session) (b : ℕ) (bs : List ℕ) → eqb b 10 ≡ false
      → printed (state_of s m) (b ∷ bs) ≡ printed (state_of (with_line s (byte_read s.line b)) m) bs
  unfolding printed
  byte_silent s b bs other = rw other

  goes_on : (s : Session) (b : ℕ) (bs : List ℕ) (at : ℕ) (p : Part) → eqb b 10 ≡ false
      → Ends (with_line s (byte_read s.line b)) m bs (at + 1) p → Ends s m (b ∷ bs) at p
  goes_on s b bs at p other ends =
      let next : p.at - at ≡ suc (p.at - (at + 1)) = omega (arith, ends.from) in
      record {
        from = omega (arith, ends.from);
        within = omega (arith, ends.within);
        feed = λ some. rw next (ends.feed (omega arith));
        state = rw next (byte_state s b (take (p.at - (at + 1)) bs) other ∙ ends.state);
        silent = rw next (byte_silent s b (take (p.at - (at + 1)) bs) other ∙ ends.silent);
      }

  pub part_ends : (s : Session) (list : List ℕ) (at : ℕ) → Ends s m list at (part_from s.line at list)
  unfolding part_from
  part_ends s [] at = stops s [] at (λ some. absurd (omega arith))
  part_ends s (b ∷ bs) at = go (eqb b 10) refl (part_ends (with_line s (byte_read s.line b)) bs (at + 1))
    where
      go : (feed : Bool) → eqb b 10 ≡ feed
          → Ends (with_line s (byte_read s.line b)) m bs (at + 1) (part_from (byte_read s.line b) (at + 1) bs)
          → Ends s m (b ∷ bs) at (part_from s.line at (b ∷ bs))
      go true feed rest = rw feed (stops s (b ∷ bs) at (λ some. eqb-true b 10 feed))
      go false other rest = rw other (goes_on s b bs at _ other rest)

-- ---- a part that starts within the input

module _ (s : Session) (m input : List ℕ) (from : ℕ) (p : Part) (part : p ≡ part_from s.line from (drop from input))
    (inside : from < length input) where
  -- the bytes from there up to an index
  abbrev upto : ℕ → List ℕ
  upto end = take (end - from) (drop from input)

  pub ends : Ends s m (drop from input) from p
  ends = rw part (part_ends m s (drop from input) from)

  pub part_places : (from ≤ p.at) × (p.at ≤ length input)
  part_places = omega (arith, ends.from, ends.within, length-drop from input)

  -- with the line feed at which it ends
  module _ (within : p.at < length input) where
    with_feed : upto (p.at + 1) ≡ upto p.at ++ 10 ∷ []
    with_feed =
        let size = length-drop from input in
        let next : p.at + 1 - from ≡ suc (p.at - from) = omega (arith, ends.from) in
        let more = take-suc (drop from input) (p.at - from) 0 (omega (arith, ends.from)) in
        rw (next, more, ends.feed (omega arith))

    pub line_state : state_after (state_of s m) (upto (p.at + 1))
        ≡ state_of (next_line (with_line s p.line) m) (executed (with_line s p.line) m).memory
    unfolding state_after
    line_state = rw (with_feed, state_append (state_of s m) (upto p.at) (10 ∷ []), ends.state)

    pub line_printed : printed (state_of s m) (upto (p.at + 1)) ≡ answered (with_line s p.line) m
    unfolding printed
    line_printed =
        rw (with_feed, printed-append (state_of s m) (upto p.at) (10 ∷ []), ends.silent, ends.state)
        (append-nil (answered (with_line s p.line) m))

-- ---- the bytes of the input from its start up to an index

module _ (start : State) (input : List ℕ) where
  pub state_more : (read more : ℕ)
      → state_after start (take (read + more) input)
      ≡ state_after (state_after start (take read input)) (take more (drop read input))
  state_more read more =
      rw (take-add read more input) (state_append start (take read input) (take more (drop read input)))

  pub printed_more : (read more : ℕ)
      → printed start (take (read + more) input)
      ≡ printed start (take read input) ++ printed (state_after start (take read input)) (take more (drop read input))
  printed_more read more =
      rw (take-add read more input) (printed-append start (take read input) (take more (drop read input)))

  -- where there is room for an answer, something is read
  pub some_read : {room : ℕ} (read written : ℕ) → written ≡ length (printed start (take read input))
      → (read < length input → room < written + 80) → 80 ≤ room → 0 < length input → 0 < read
  unfolding printed
  some_read zero written end full room some = let short = full some in absurd (omega arith)
  some_read (suc read) written end full room some = omega arith

-- they have been read, and what they print is in the output
pub record Reached (start : State) (input before : List ℕ) (t : State) (read written : ℕ) (after : List ℕ) : Type 0
  where
    pub state : t ≡ state_after start (take read input)
    pub end : written ≡ length (printed start (take read input))
    pub output : after ≡ sets before 0 (printed start (take read input))

module _ {start : State} {input before : List ℕ} where
  pub none_read : Reached start input before start 0 0 before
  unfolding state_after printed
  none_read = record { state = refl; end = refl; output = refl }

  pub more_read : {t u : State} {read next written end : ℕ} {output after : List ℕ}
      → Reached start input before t read written output → read ≤ next
      → u ≡ state_after t (take (next - read) (drop read input))
      → end ≡ written + length (printed t (take (next - read) (drop read input)))
      → after ≡ sets output written (printed t (take (next - read) (drop read input)))
      → Reached start input before u next end after
  more_read {read = read} {next} done further state end output =
      let sum : read + (next - read) ≡ next = omega arith in
      let states = rw sum at (state_more start input read (next - read)) in
      let prints = rw sum at (printed_more start input read (next - read)) in
      record {
        state = rw states (state ∙ rw done.state);
        end = rw (prints, length-append) (end ∙ rw (done.end, done.state));
        output = rw (prints, sets-append, zero-add) (output ∙ rw (done.end, done.output, done.state));
      }
