-- Rests on the call of the rack.
use mathlib.Core.Path.{ap, ◌∙◌}
use Rattle.bandsawpink.specs.Words.{words_of}
use Rattle.bandsawpink.proofs.Exported.{answer_exported}
use Rattle.bandsawpink.proofs.rack_format.Goals as goal

pub returns : goal.returns
returns c =
    let formatted = c.format_rack-reply.ensures in
    record {
      answer = c.in_numbers.ensures ∙ answer_exported _ _ formatted.answer;
      directory = c.write_directory.ensures ∙ ap words_of formatted.directory;
      memory = formatted.memory;
    }
