-- `encoder::diff_words` meets its contract. The loop's invariant: with the words of the pages from the next one on, the
-- count is that of all pages and the end word.
use Rattle.std.proofs.Common.{arith}
use Rattle.encoder.proofs.Pages.{prices_of_page, body_on_none, length-next, length-made}
use Rattle.encoder.proofs.diff_words.Goals as goal

pub loop-page_marks-preserved : goal.loop-page_marks-preserved
loop-page_marks-preserved c =
    let page = c.loop-page_marks.page_marks-index in
    let counted = c.page_words-words.ensures in (
      omega (arith, counted.short),
      λ prices. omega (
        arith,
        length-next prices c.args.marks.now page c.loop-page_marks-test.true,
        counted.counted page (prices_of_page prices page),
        c.loop-page_marks.invariant.1 prices,
      ),
    )

pub returns : goal.returns
returns c = λ prices long.
    grind (arith, length-made prices c.args.marks.now long, body_on_none, c.loop-page_marks.invariant.1 prices)
