-- `merger::merge_pages` meets its contract. The loop's invariant: what the pages before one bring stands in the list, and
-- the rest of both diffs is ahead. The lower of the next words rises with each page.
use Rattle.std.proofs.Common.{arith, refl, sym, ◌∙◌}
use Rattle.merger.proofs.Merging.{merging_first, next_page_on, page_of_first, page_of_second}
use Rattle.merger.proofs.Merging.{next_rises, no_room, merging_next, merged-made}
use Rattle.merger.proofs.merge_pages.Goals as goal

pub loop-page-init : goal.loop-page-init
loop-page-init c = merging_first _ _ _ c.requires.0 c.requires.1 (omega arith)

pub apply_page-of_first-requires : goal.apply_page-of_first-requires
apply_page-of_first-requires c =
    let merging = c.loop-page.invariant in
    let more = sym c.next_page.ensures ∙ c.in-Some.is in
    record {
      page_bound = next_page_on merging _ more;
      by_index = (_, (_, page_of_first merging _ more));
    }

pub apply_page-of_both-requires : goal.apply_page-of_both-requires
apply_page-of_both-requires c =
    let merging = c.loop-page.invariant in
    let more = sym c.next_page.ensures ∙ c.in-Some.is in
    record {
      page_bound = next_page_on merging _ more;
      by_index = (_, (_, page_of_second merging _ more));
    }

pub returns-then-at-words-ge-MOST_WORDS : goal.returns-then-at-words-ge-MOST_WORDS
returns-then-at-words-ge-MOST_WORDS c =
    let merging = c.loop-page.invariant in
    let more = sym c.next_page.ensures ∙ c.in-Some.is in
    let applied = c.apply_page-of_first.ensures.applied _ _ (page_of_first merging _ more) in
    let applied' = c.apply_page-of_both.ensures.applied _ _ (page_of_second merging _ more) in
    no_room merging _ more _ _ _ _ _ applied applied' _ c.page_words-words.ensures.counted (omega arith)

pub write_page-at-requires : goal.write_page-at-requires
write_page-at-requires c =
    let merging = c.loop-page.invariant in
    let more = sym c.next_page.ensures ∙ c.in-Some.is in
    record {
      page_bound = next_page_on merging _ more;
      prices_len = omega arith;
      prices_in_bounds = omega (arith, c.page_words-words.ensures.counted c.in-Some.page c.apply_page-of_both.new.prices, merging.long);
    }

pub loop-page-smaller : goal.loop-page-smaller
loop-page-smaller c =
    let merging = c.loop-page.invariant in
    let more = sym c.next_page.ensures ∙ c.in-Some.is in
    let past = c.apply_page-of_first.ensures.past _ _ (page_of_first merging _ more) in
    let past' = c.apply_page-of_both.ensures.past _ _ (page_of_second merging _ more) in
    let rises = next_rises merging _ more _ _ past past' in
    omega arith

pub loop-page-preserved : goal.loop-page-preserved
loop-page-preserved c =
    let merging = c.loop-page.invariant in
    let more = sym c.next_page.ensures ∙ c.in-Some.is in
    let first = page_of_first merging _ more in
    let second = page_of_second merging _ more in
    merging_next merging _ more _ _ _ _ _ (c.apply_page-of_first.ensures.applied _ _ first)
    (c.apply_page-of_both.ensures.applied _ _ second) _ c.page_words-words.ensures.counted (omega arith) _ _ _ _
    (c.apply_page-of_first.ensures.past _ _ first) (c.apply_page-of_both.ensures.past _ _ second)
    c.write_page-at.ensures.stopped c.write_page-at.ensures.written

pub returns : goal.returns
returns c = merged-made c.loop-page.invariant (sym c.next_page.ensures ∙ c.in_default.is) _ refl
