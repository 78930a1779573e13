-- Rests on the callees: each puts its part behind what the last one put.
use Rattle.std.proofs.Common.{◌∙◌, sym, arith}
use Rattle.lines.proofs.Answer.{put_in_parts, long}
use Rattle.lines.proofs.append_answer.Goals as goal

pub returns : goal.returns
returns c =
    let a = c.args in
    let numbered = c.append_decimal-numbered.ensures in
    let lettered = c.append_bytes-lettered.ensures in
    let refused = c.append_decimal-refused.ensures in
    let spaced = c.append_bytes-spaced.ensures in
    let valued = c.append_decimal-valued.ensures in
    let ended = c.append_bytes.ensures in
    record {
      room = omega (arith, ended.result_value, valued.upper_bound, spaced.result_value, refused.upper_bound, lettered.result_value, numbered.upper_bound);
      end =
          ended.result_value
          ∙ rw (
            valued.result_value,
            spaced.result_value,
            refused.result_value,
            c.from.ensures,
            lettered.result_value,
            numbered.result_value,
          )
          (long a.number a.letter a.refusal a.value a.output.now a.written);
      answer =
          ended.text_after
          ∙ rw (
            valued.text_after,
            spaced.text_after,
            refused.text_after,
            lettered.text_after,
            numbered.text_after,
            valued.result_value,
            spaced.result_value,
            refused.result_value,
            c.from.ensures,
            lettered.result_value,
            numbered.result_value,
          )
          (sym (put_in_parts a.number a.letter a.refusal a.value a.output.now a.written));
    }
