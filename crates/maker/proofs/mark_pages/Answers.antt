-- `maker::mark_pages` meets its contract. The loop's invariant: the marks of the pages before `page` are stored.
use Rattle.std.specs.Prelude.{ℕ, ◌+◌, ◌-◌, ◌*◌, ◌/◌, ◌<◌, ◌≡◌, List, length, set, take, drop}
use Rattle.std.proofs.Common.{arith}
use Rattle.std.proofs.lemmas.Grind.{common_steps}
use Rattle.diff.specs.Marks.{changed_words, changes_of}
use Rattle.diff.proofs.Marks.{length_changes, changes_at}
use Rattle.maker.proofs.mark_pages.Goals as goal

-- the words lent to a page are its own
lent : (page : ℕ) → 32 * page + 32 - 32 * page ≡ 32
lent page = omega arith

-- one page more
marked_more : (pages : ℕ) (working twins marks : List ℕ) (page mark : ℕ) → page < pages → page < length marks
    → mark ≡ changed_words (take 32 (drop (32 * page) working)) (take 32 (drop (32 * page) twins))
    → take page marks ≡ take page (changes_of pages working twins)
    → take (page + 1) (set marks page mark) ≡ take (page + 1) (changes_of pages working twins)
marked_more pages working twins marks page mark below within is before =
    grind (arith, common_steps, length_changes pages working twins, changes_at pages working twins page below)

pub loop-page-preserved : goal.loop-page-preserved
loop-page-preserved c =
    let page = c.loop-page.page in
    marked_more (length c.args.working.now / 32) c.args.working.now c.args.twins.now _ page _ (omega arith) (omega arith)
    (rw (lent page) at c.changed_words.ensures) c.loop-page.invariant

pub returns : goal.returns
returns c = grind (arith, common_steps, length_changes)
