-- The answers to some bytes of the input, to those that follow, and to a whole input.
use Rattle.std.specs.Prelude.{ℕ, List, [], ◌++◌, ◌≡◌, ◌≤◌, length, take, drop, Option, None, Some, IfSome, Result, Ok, Err, OnOk, OnErr, ◌-◌}
use Rattle.std.proofs.Common.{refl, sym, ap, ◌∙◌, arith, append_assoc, length-drop, take-append-drop}
use Rattle.std.specs.Io.KnownBytes.{Appends, Consumes, IsAtEnd}
use Rattle.std.proofs.KnownBytes.{Appends-nil, Appends-trans, Consumes-whole}
use Rattle.std.proofs.lemmas.List.Edits.{sets}
use lib.Seq.{take_all, take-append_seam}
use Rattle.laws.proofs.Lists.{sets_front}
use Rattle.protocol.specs.Formatting.{formatting}
use Rattle.interpreter.specs.Transcript.{State, state_of, state_after, printed, last_answer, replies, first_session, first_line, transcript}
use Rattle.interpreter.proofs.Parts.{state_append, printed-append}
use Rattle.interpreter.proofs.Transcript.{prints_transcript}
use Rattle.shelfrun.specs.Answers.{Answers}

-- the front of an output is what was put there
pub front_of : (text output : List ℕ) (written : ℕ) → written ≡ length text → written ≤ length output
    → take written (sets output 0 text) ≡ text
front_of text output written end room =
    rw (end, sets_front text output (omega arith)) (take-append_seam text (drop (length text) output))

-- what is left of a part, once more of it has been read
pub left_over : (input bytes rest : List ℕ) (read : ℕ) → input ≡ bytes ++ rest
    → input ≡ (bytes ++ take read rest) ++ take (length rest - read) (drop read rest)
left_over input bytes rest read part =
    let all = take_all (length rest - read) (drop read rest) (omega (arith, length-drop read rest)) in
    part ∙ sym (rw (append_assoc, all, take-append-drop))

-- what holds of any answer
pub on_err : {A E : Type 0} {P : Type 0} (r : Result A E) → P → OnErr r P
on_err (Ok a) p = tt
on_err (Err e) p = p

module _ (start : State) where
  pub nothing_read : (contents : Option (List ℕ)) → Answers start [] start contents contents
  unfolding state_after printed
  nothing_read contents = record { state = refl; written = Appends-nil contents }

  pub read_on : (bytes more : List ℕ) (now next : State) (a b c : Option (List ℕ)) → Answers start bytes now a b
      → next ≡ state_after now more → Appends b c (printed now more) → Answers start (bytes ++ more) next a c
  read_on bytes more now next a b c before state written =
      record {
        state = state ∙ ap (λ t. state_after t more) before.state ∙ sym (state_append start bytes more);
        written =
            rw printed-append
            (Appends-trans a b c (printed start bytes) (printed (state_after start bytes) more) before.written
            (rw before.state at written));
      }

  -- where a write fails, the state is that after some first bytes of the part
  pub failed_after : (input bytes more rest : List ℕ) (now next : State) → input ≡ (bytes ++ more) ++ rest
      → now ≡ state_after start bytes → next ≡ state_after now more
      → next ≡ state_after start (take (length (bytes ++ more)) input)
  failed_after input bytes more rest now next part before state =
      rw (part, take-append_seam (bytes ++ more) rest)
      (state ∙ ap (λ t. state_after t more) before ∙ sym (state_append start bytes more))

  -- a reader that is at its end has given its whole input
  pub whole_read : (old new : Option (List ℕ)) (bytes : List ℕ) (now : State) (a b : Option (List ℕ)) → Consumes old new bytes
      → IsAtEnd new → Answers start bytes now a b → IfSome old (λ input. Answers start input now a b)
  whole_read old new bytes now a b consumed end answers =
      Consumes-whole old new bytes (λ input. Answers start input now a b) consumed end answers

-- the first line, the answers to an input, and the one to its last line are the transcript
module _ (m : List ℕ) where
  abbrev pub started : State
  started = state_of (first_session m) (formatting m 3 4).memory

  whole : (input : List ℕ) (after : State) (a b c d : Option (List ℕ)) → Appends a b first_line
      → Answers started input after b c → Appends c d (last_answer after.session after.memory)
      → Appends a d (transcript m input)
  unfolding replies
  whole input after a b c d first answers last =
      rw (← prints_transcript m input)
      (Appends-trans a b d first_line (replies (first_session m) (formatting m 3 4).memory input) first
      (Appends-trans b c d (printed started input)
      (last_answer (state_after started input).session (state_after started input).memory) answers.written
      (rw answers.state at last)))

  pub transcript_written : {E : Type 0} (r : Result (Unit {0}) E) (old : Option (List ℕ)) (start after : State)
      (a b c d : Option (List ℕ)) → start ≡ started → Appends a b first_line
      → IfSome old (λ input. Answers start input after b c)
      → OnOk r (Appends c d (last_answer after.session after.memory))
      → OnOk r (IfSome old (λ input. Appends a d (transcript m input)))
  transcript_written (Err e) old start after a b c d starts first answers last = tt
  transcript_written (Ok u) None start after a b c d starts first answers last = tt
  transcript_written (Ok u) (Some input) start after a b c d starts first answers last =
      whole input after a b c d first (rw starts at answers) last
