-- Rests on `read_counts`: reading the list of a good release finds its prices.
use Rattle.release.proofs.Prices.{read_counts, read_not_faulty}
use Rattle.release.proofs.steps.count_prices.Goals as goal

pub returns-in-Ok : goal.returns-in-Ok
returns-in-Ok c =
    let a = c.args in
    let reads = rw c.open_list.ensures.result_value at c.read.ensures in
    read_counts a.pages _ a.memory.now a.card c.requires.size_value.0 c.requires.good_release reads
    c.in-Ok.is

pub returns-in-Err : goal.returns-in-Err
returns-in-Err c =
    let a = c.args in
    let reads = rw c.open_list.ensures.result_value at c.read.ensures in
    absurd
    (read_not_faulty a.pages _ a.memory.now a.card c.requires.size_value.0 c.requires.good_release reads
    c.in-Err.is)
