-- What the exported functions answer, and the directory's words that they leave.
-- Assumes nothing: these are definitions.
use Rattle.std.specs.Prelude.{ℕ, List, Bool, cond}
use Rattle.answer.specs.declared.Outcome.{Outcome}
use Rattle.protocol.specs.Result.{Result, accepted}
use Rattle.bandsawpink.specs.declared.answers.RackAnswer.{RackAnswer}
use Rattle.bandsawpink.specs.declared.answers.RackDeskAnswer.{RackDeskAnswer}
use Rattle.bandsawpink.specs.declared.answers.RackStepsAnswer.{RackStepsAnswer}
use Rattle.bandsawpink.specs.declared.answers.RackFetchAllAnswer.{RackFetchAllAnswer}
use Rattle.bandsawpink.specs.Words.{words_of}

abbrev pub exported_answer : Outcome → RackAnswer
exported_answer o = record { number = o.number; value = o.value }

abbrev pub exported_desk_answer : Outcome → List ℕ → RackDeskAnswer
exported_desk_answer o desk = record { number = o.number; value = o.value; desk = desk }

abbrev pub exported_steps_answer : Outcome → ℕ → RackStepsAnswer
exported_steps_answer o made = record { number = o.number; made = made; value = o.value }

abbrev pub exported_pages_answer : Outcome → List Bool → RackFetchAllAnswer
exported_pages_answer o shown = record { number = o.number; value = o.value; shown = shown }

-- a refusal keeps the words, whatever they are
abbrev pub directory_after : List ℕ → Result → List ℕ
directory_after words r = cond (accepted r.outcome) (words_of r.directory) words
