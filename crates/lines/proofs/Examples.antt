-- The examples hold: each is computed.
use Rattle.laws.proofs.Prelude.{refl}
use Rattle.laws.specs.Examples.{AllHold, same_words, failures_from, Claims}
use Rattle.laws.specs.Text.{bytes_of}
use Rattle.laws.proofs.Examples.{all_hold}
use Rattle.decimal.specs.Decimal.{digits_before}
use Rattle.lines.specs.Command.{is_label, open_form, step_form, fail_form, join_form, fetch_form, form_of}
use Rattle.lines.specs.Grammar.{break_at, lines_of, fields_of, all_digits, number_from, all_numbers, values_of}
use Rattle.lines.specs.Grammar.{command_in}
use Rattle.lines.specs.Answer.{answer_line}
use Rattle.lines.specs.Examples.{examples}

pub examples_hold : AllHold examples
unfolding same_words failures_from Claims bytes_of is_label open_form step_form fail_form join_form fetch_form form_of break_at
    lines_of fields_of all_digits number_from all_numbers values_of command_in digits_before answer_line
examples_hold = all_hold examples refl tt
