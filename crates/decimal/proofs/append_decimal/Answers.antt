-- Rests on `is_decimal`: the digits are std's.
use Rattle.std.proofs.Common.{◌≡◌, [], ◌∙◌, ap, sym, length, arith}
use Rattle.decimal.specs.Decimal.{decimal_before}
use Rattle.decimal.proofs.Digits.{is_decimal}
use Rattle.decimal.proofs.append_decimal.Goals as goal

pub append_bytes-requires : goal.append_bytes-requires
append_bytes-requires c =
    let short = (is_decimal c.args.n c.ranges.n.fits).1 in
    let long = ap length (c.as_bytes.ensures.value ∙ c.format.ensures.text) in
    omega (arith, short, long)

pub returns : goal.returns
returns c =
    let digits = is_decimal c.args.n c.ranges.n.fits in
    let bytes : c.as_bytes.result.now ≡ decimal_before c.args.n [] =
    c.as_bytes.ensures.value ∙ c.format.ensures.text ∙ sym digits.0
    in
    let long = ap length digits.0 in
    let put = c.append_bytes.ensures in
    record {
      upper_bound = omega (arith, put.result_value, ap length bytes, long, digits.1);
      result_value = rw (← bytes) put.result_value;
      text_after = rw (← bytes) put.text_after;
    }
