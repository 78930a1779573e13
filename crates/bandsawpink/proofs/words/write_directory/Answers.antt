-- Rests on `parts_stored`: the three parts are all the words.
use mathlib.Core.Path.{◌≡◌, ap}
use native.Mathlib.Omega.{arith}
use lib.ListN.{length}
use lib.Seq.{length-sets}
use borrow.Author.Rules.{rules}
use Rattle.bandsawpink.specs.Words.{head_of, words_of}
use Rattle.bandsawpink.proofs.Stored.{parts_stored, head_length}
use Rattle.bandsawpink.proofs.words.write_directory.Goals as goal

pub store_run_in-requires-2 : goal.store_run_in-requires-2
store_run_in-requires-2 c =
    let d = c.args.directory in
    let arrays = c.well_formed.1.0.1.1.1.1 in
    let homes : length d.primary ≡ 64 = search rules in
    let kept = simp length-sets at (ap length c.store_run_in.ensures) in
    omega (arith, kept)

pub store_run_in-requires-3 : goal.store_run_in-requires-3
store_run_in-requires-3 c =
    let d = c.args.directory in
    let arrays = c.well_formed.1.0.1.1.1.1 in
    let homes : length d.secondary ≡ 64 = search rules in
    let kept = simp length-sets at (ap length c.store_run_in.ensures) in
    let kept_again = simp length-sets at (ap length c.store_run_in-2.ensures) in
    omega (arith, kept, kept_again)

pub returns : goal.returns
unfolding words_of
returns c =
    let d = c.args.directory in
    let arrays = c.well_formed.1.0.1.1.1.1 in
    let primaries : length d.primary ≡ 64 = search rules in
    let secondaries : length d.secondary ≡ 64 = search rules in
    rw (c.store_run_in-3.ensures, c.store_run_in-2.ensures, c.store_run_in.ensures, c.head_of-head.ensures)
    (parts_stored c.args.words.now (head_of d) d.primary d.secondary c.requires (head_length d)
    primaries secondaries)
