-- `protocol::calls_answer_as_model` meets its contract: the theorem is `answers_as_model` of
-- proofs/demands/AnswersAsModel.antt.
use Rattle.directory.specs.NewHome.{even_home}
use Rattle.directory.proofs.NewHome.{even_names_live}
use Rattle.protocol.proofs.demands.AnswersAsModel.{answers_as_model}
use Rattle.protocol.proofs.calls_answer_as_model.Goals as goal

pub returns : goal.returns
returns c = record { answers_as_model = answers_as_model even_home even_names_live; any_rule = answers_as_model }
