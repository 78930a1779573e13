-- Rests on its test, and on `sets_all_part`: the page's part of the buffer is lent, and all its words are new.
use Prim.Native.Nat.{◌*◌}
use native.Mathlib.Omega.{arith}
use lib.ListN.{get_or}
use Rattle.area.specs.Layout.{area_size, page_size, committed}
use Rattle.memory.proofs.Index.{area_in}
use Rattle.memory.proofs.Parts.{length_part, sets_all_part}
use Rattle.memory.proofs.Runs.{length-load_run}
use Rattle.protocol.specs.Fetch.{committed_page}
use Rattle.batch.proofs.fetch_next.Goals as goal

pub returns-then-moving-at : goal.returns-then-moving-at
returns-then-moving-at c = record { shown = rw c.if-moving-at.true; buffer = λ secondary. rw c.if-moving-at.true }

pub load_committed-requires : goal.load_committed-requires
load_committed-requires c =
    let a = c.args in
    let pre = c.requires in
    let long = length_part a.buffer.now (page_size * a.page) page_size (omega arith) in
    rw c.area_size-size.ensures record {
      area_in = area_in _ pre.home_lt_cards pre.memory_of.2;
      page_bound = (omega arith, omega arith);
      buffer_len = omega arith;
    }

pub returns : goal.returns
unfolding committed_page
returns c =
    let a = c.args in
    let pre = c.requires in
    let still = c.if-moving-at.false in
    let words = rw c.area_size-size.ensures at c.load_committed.ensures in
    let size = area_size a.header.pages in
    let area = area_in size pre.home_lt_cards pre.memory_of.2 in
    let run =
    length-load_run size a.memory.now (get_or a.primary.now a.page 0) (committed a.page) page_size area
    (omega arith) in
    record {
      shown = rw still;
      buffer = λ secondary. rw still (sets_all_part a.buffer.now (page_size * a.page) page_size _ words run (omega arith));
    }
