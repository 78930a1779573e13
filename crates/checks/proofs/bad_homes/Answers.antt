-- Rests on `all_live`: where all cards are live, the numbers of the homes tell.
use mathlib.Core.Path.{◌≡◌, ◌∙◌}
use native.Mathlib.Omega.{arith}
use Rattle.laws.specs.Search.{count_below}
use Rattle.laws.proofs.Search.{some_count}
use Rattle.directory.specs.Directory.{live_at}
use Rattle.directory.specs.Lent.{lent}
use Rattle.checks.specs.Homes.{misplaced_page}
use Rattle.checks.proofs.Homes.{all_live}
use Rattle.checks.proofs.bad_homes.Goals as goal

pub returns-then-count-directory : goal.returns-then-count-directory
returns-then-count-directory c =
    let d = lent c.args.directory in
    let all : count_below (live_at d.live) d.cards ≡ d.cards = omega (arith, c.requires.count_value) in
    rw c.count_misplaced.ensures
    (some_count (misplaced_page d.cards d.primary d.secondary) d.pages ∙ all_live d all)
