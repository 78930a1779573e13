-- The loop's invariant: the pages passed are fetched.
use mathlib.Core.Path.{◌≡◌, refl, sym, ◌∙◌}
use native.Mathlib.Omega.{arith}
use borrow.Author.Rules.{rules}
use Rattle.laws.proofs.Search.{in_turn_none, in_turn_more}
use Rattle.batch.proofs.fetch_pages.Goals as goal

pub loop-page-init : goal.loop-page-init
loop-page-init c = (refl, sym (in_turn_none _ _))

pub fetch_next-requires : goal.fetch_next-requires
fetch_next-requires c =
    let below = c.loop-page-test.true in
    let pre = c.requires in
    record {
      memory_of = pre.memory_of;
      page_bound = (below, omega arith);
      home_lt_cards = pre.primaries_in.below _ below;
      buffer_len = c.loop-page.invariant.0 ∙ pre.buffer_len;
    }

pub loop-page-preserved : goal.loop-page-preserved
loop-page-preserved c =
    let next = c.fetch_next in
    let at = c.loop-page in
    (search rules, rw (in_turn_more, ← at.invariant.1, next.ensures.shown, next.ensures.buffer c.args.directory.secondary.now))

pub returns : goal.returns
returns c =
    let at = c.loop-page in
    let end : at.page ≡ c.args.directory.header.pages = omega arith in
    rw end at at.invariant.1
