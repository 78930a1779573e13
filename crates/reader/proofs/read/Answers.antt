-- `reader::read` meets its contract. The loop's invariant: the words that are left, read from here, give the verdict
-- on the whole list.
use mathlib.Core.Path.{◌≡◌, sym, ◌∙◌}
use native.Mathlib.Omega.{arith}
use borrow.Author.Rules.{rules}
use Rattle.reader.proofs.Keeping.{word_passed, passed_well_formed, passed_idle}
use Rattle.reader.proofs.Turns.{read_turn}
use Rattle.reader.proofs.Runs.{read_run, read_run_cut, read_over}
use Rattle.reader.proofs.read.Goals as goal
use Rattle.reader.proofs.read.Goals.{else-loop-index-test, then-loop-index-test+in-Next+then-words-index}

pub loop-index-init : goal.loop-index-init
loop-index-init c = rw (c.cursor-s.ensures) (search rules)

pub run_read-s-requires : goal.run_read-s-requires
run_read-s-requires c =
    let at = c.loop-index in
    let does = sym c.in-Next.is ∙ c.read_word.ensures in
    let passed = word_passed _ _ _ _ at.invariant.2 _ does in
    passed_well_formed _ _ passed (omega arith)

pub loop-index-preserved : goal.loop-index-preserved
loop-index-preserved c =
    let at = c.loop-index in
    let does = sym c.in-Next.is ∙ c.read_word.ensures in
    let passed = word_passed _ _ _ _ at.invariant.2 _ does in
    rw c.run_read-s.ensures (
      at.invariant.0,
      omega arith,
      passed_idle _ _ passed,
      omega arith,
      sym (read_run _ _ _ _ at.invariant.2 _ does _ at.invariant.0 (omega arith) c.if-words-index.false) ∙ at.invariant.4,
    )

pub returns-in-End : goal.returns-in-End
returns-in-End c =
    let at = c.loop-index in
    let does = sym c.in-End.is ∙ c.read_word.ensures in
    sym (read_turn _ _ _ at.s _ does (omega arith) (λ full. omega arith)) ∙ at.invariant.4

pub returns-in-Fault : goal.returns-in-Fault
returns-in-Fault c =
    let at = c.loop-index in
    let does = sym c.in-Fault.is ∙ c.read_word.ensures in
    sym (read_turn _ _ _ at.s _ does (omega arith) (λ full. omega arith)) ∙ at.invariant.4

pub returns : goal.returns
returns c =
    let at = c.loop-index in
    let words = c.min-words.result in
    elim c.loop-index-test.branch [
      | else-loop-index-test w ↦
          let all : at.index ≡ words = omega arith in
          rw (← all) (sym (read_over _ _ _ at.s (all ∙ at.invariant.0)) ∙ at.invariant.4)
      | then-loop-index-test+in-Next+then-words-index w ↦
          let does = sym w.in-Next.is ∙ w.read_word.ensures in
          sym (read_run_cut _ _ _ _ at.invariant.2 _ does _ at.invariant.0 (omega arith) w.if-words-index.true)
          ∙ at.invariant.4
    ]
