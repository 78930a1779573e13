-- `protocol::calls_answer_as_before` meets its contract: the theorem is `answers_by_any_rule` of
-- proofs/demands/AnswersAsBefore.antt.
use Rattle.directory.specs.NewHome.{next_home, even_home}
use Rattle.directory.proofs.NewHome.{next_names_live, even_names_live}
use Rattle.protocol.proofs.demands.AnswersAsBefore.{answers_by_any_rule}
use Rattle.protocol.proofs.calls_answer_as_before.Goals as goal

pub returns : goal.returns
returns c =
    record {
      answers_as_before = answers_by_any_rule next_home even_home next_names_live even_names_live;
      any_rule = answers_by_any_rule;
    }
