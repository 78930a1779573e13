-- `page::write_page` meets its contract: without marks the page has no words, else its page word and its runs.
use Rattle.std.proofs.Common.{arith}
use Rattle.std.proofs.lemmas.Grind.{common_steps}
use Rattle.encoder.proofs.Runs.{page_words_none, page_words_marked}
use Rattle.encoder.proofs.page.write_page.Goals as goal

pub returns-then-marks-eq0-clause-stopped : goal.returns-then-marks-eq0-clause-stopped
returns-then-marks-eq0-clause-stopped c = grind (arith, page_words_none)

pub returns-then-marks-eq0-clause-written : goal.returns-then-marks-eq0-clause-written
returns-then-marks-eq0-clause-written c = grind (arith, common_steps, page_words_none)

pub bounds-list-start : goal.bounds-list-start
bounds-list-start c = grind (arith, common_steps, page_words_marked)

pub write_runs-requires-clause-by_index : goal.write_runs-requires-clause-by_index
write_runs-requires-clause-by_index c = (c.args.page, grind (arith, common_steps, page_words_marked))

pub returns-clause-stopped : goal.returns-clause-stopped
returns-clause-stopped c =
    let stopped = c.write_runs.ensures.stopped c.args.page in
    grind (arith, common_steps, page_words_marked)

pub returns-clause-written : goal.returns-clause-written
returns-clause-written c =
    let written = c.write_runs.ensures.written c.args.page in
    grind (arith, common_steps, page_words_marked)
