-- `page::page_words` meets its contract: the ones of the marks and of the ends of runs count the words of a page.
use Rattle.std.proofs.Common.{arith}
use Rattle.encoder.proofs.Runs.{page_words_none}
use Rattle.encoder.proofs.Counting.{runs_and_marks_ones, length_page_words}
use Rattle.encoder.proofs.page.page_words.Goals as goal

pub returns-then-marks-eq0-clause-counted : goal.returns-then-marks-eq0-clause-counted
returns-then-marks-eq0-clause-counted c = λ page prices. grind (arith, page_words_none)

pub returns-clause-counted : goal.returns-clause-counted
returns-clause-counted c = λ page prices.
    omega (
      arith,
      length_page_words page c.args.marks prices (omega arith) (omega arith),
      runs_and_marks_ones 32 c.args.marks (omega arith),
    )
