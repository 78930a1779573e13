-- `changes::changed_words` meets its contract. The loop's invariant: the marks are those of the words before `word`.
use Rattle.std.specs.Prelude.{◌≡◌}
use Rattle.encoder.proofs.Changed.{changed_first}
use Rattle.encoder.proofs.changes.changed_words.Given as goal

abbrev pub invariant-loop-word : goal.invariant-loop-word
invariant-loop-word l = l.marks ≡ changed_first l.words l.twins l.word
