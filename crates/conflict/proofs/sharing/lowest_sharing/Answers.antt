-- Rests on `none_shares`, where no other release is open; and on `marks_share`: the marks of the labels that the list
-- names find the cards that share a word with it.
use mathlib.Core.Path.{◌∙◌}
use borrow.Author.Rules.{rules}
use Rattle.laws.proofs.Search.{lowest_below_agree}
use Rattle.conflict.proofs.Others.{none_shares}
use Rattle.conflict.proofs.sharing.Labels.{marks_share}
use Rattle.conflict.proofs.sharing.lowest_sharing.Goals as goal

pub returns-then-not-any_other : goal.returns-then-not-any_other
returns-then-not-any_other c =
    let a = c.args in
    let h = c.args.header in
    none_shares h.live a.memory.now h.cards h.pages a.card a.list.now (search rules)

pub returns : goal.returns
returns c =
    let a = c.args in
    let h = c.args.header in
    let same = marks_share h.live _ a.memory.now a.card a.list.now c.requires.memory_of.1 in
    c.walk_lists.ensures
    ∙ lowest_below_agree _ _ h.cards (λ other below. rw c.mark_labels.ensures (same other))
