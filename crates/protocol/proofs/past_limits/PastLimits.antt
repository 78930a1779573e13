-- The proof that nothing past a directory's cards and pages is read, and that calls keep it: it rests on each call by a
-- directory and by the same one cut off there, and on demand 1 for refused calls.
use Rattle.std.specs.Prelude.{ℕ, ◌≡◌, List, Bool, true, false}
use Rattle.laws.proofs.Prelude.{refl, sym, ap, ◌∙◌}
use Rattle.directory.specs.declared.Directory.{Directory}
use Rattle.directory.specs.NewHome.{even_home}
use Rattle.protocol.specs.Result.{Result, accepted}
use Rattle.protocol.specs.Calls.{Call, start_release, make_step, fetch_page, fail_card, recover, join_card}
use Rattle.protocol.specs.Calls.{ask_desk, perform_by, perform}
use Rattle.protocol.specs.PastLimits.{below_limits, SameBelow, PastLimits}
use Rattle.protocol.proofs.calls.Refused.{refused_unchanged}
use Rattle.protocol.proofs.past_limits.Call.{CallBelow, LeftBelow, same_directory}
use Rattle.protocol.proofs.past_limits.Formatting.{blank_past}
use Rattle.protocol.proofs.past_limits.Opening.{opening_below}
use Rattle.protocol.proofs.past_limits.Step.{step_below}
use Rattle.protocol.proofs.past_limits.Reading.{fetch_below, question_below}
use Rattle.protocol.proofs.past_limits.Failure.{failure_below}
use Rattle.protocol.proofs.past_limits.Recovery.{recovery_below}
use Rattle.protocol.proofs.past_limits.Directory.{even_below}
use Rattle.protocol.proofs.past_limits.Join.{join_below}

-- ---- each call

call_below : (call : Call) (d : Directory) (m : List ℕ)
    → CallBelow d (perform call (below_limits d) m) (perform call d m)
unfolding perform_by
call_below (start_release card r list) d m = opening_below d m card r list
call_below (make_step card) d m = step_below d m card
call_below (fetch_page page buffer) d m = fetch_below d m page buffer
call_below (fail_card card) d m = failure_below d m card
call_below recover d m = recovery_below even_home even_below d m
call_below (join_card card) d m = join_below d card m
call_below (ask_desk card) d m = question_below d m card

-- ---- accepted or refused

left_below : (call : Call) (d : Directory) (m : List ℕ)
    → LeftBelow d (perform call (below_limits d) m) (perform call d m)
left_below call d m = go (accepted (perform call d m).outcome) refl
  where
    go : (taken : Bool) → accepted (perform call d m).outcome ≡ taken
        → LeftBelow d (perform call (below_limits d) m) (perform call d m)
    go true ok = (call_below call d m).left ok
    go false refused =
        let part = refused_unchanged even_home call (below_limits d) m (rw (call_below call d m).outcome refused) in
        let whole = refused_unchanged even_home call d m refused in
        same_directory part.directory whole.directory (part.memory ∙ sym whole.memory)
        (part.words ∙ sym whole.words)

unread : (call : Call) (d e : Directory) (m : List ℕ) → below_limits d ≡ below_limits e
    → SameBelow (perform call d m) (perform call e m)
unread call d e m agree =
    let at-d = left_below call d m in
    let at-e = left_below call e m in
    let between : perform call (below_limits d) m ≡ perform call (below_limits e) m = rw agree in
    record {
      outcome =
          sym (call_below call d m).outcome ∙ ap (λ (r : Result). r.outcome) between
          ∙ (call_below call e m).outcome;
      directory =
          sym at-d.directory ∙ ap (λ (r : Result). below_limits r.directory) between ∙ at-e.directory;
      memory = sym at-d.memory ∙ ap (λ (r : Result). r.memory) between ∙ at-e.memory;
      words = sym at-d.words ∙ ap (λ (r : Result). r.words) between ∙ at-e.words;
    }

pub past_limits : PastLimits
past_limits = record { unread = unread; kept = λ call d m. (left_below call d m).kept; formats = blank_past }
