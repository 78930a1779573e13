-- Rests on its checks: an accepted opening finds a live card and a list of at most 512 words.
use mathlib.Core.Path.{◌≡◌, refl}
use native.Mathlib.Omega.{arith}
use borrow.Author.Rules.{rules}
use lib.ListN.{length}
use Rattle.std.proofs.lemmas.Result.{err_from_is_err_and}
use Rattle.directory.specs.Lent.{lent}
use Rattle.memory.proofs.Index.{area_in}
use Rattle.area.specs.Releases.{release_of}
use Rattle.diff.proofs.OnlyDiff.{allowed_few}
use Rattle.rack.proofs.ValidRack.{valid_rack}
use Rattle.rack.proofs.Results.{opening_facts, opening-refused, opening-accepted}
use Rattle.rack.proofs.open_lent.Goals as goal

pub returns-in_err-opening : goal.returns-in_err-opening
returns-in_err-opening c =
    let a = c.args in
    let r = release_of a.number a.desk.now in
    let p = err_from_is_err_and c.from_residual.result c.from_residual.ensures.1 in
    rw (p.1, p.2, opening-refused (lent a.directory) a.memory.now a.card r a.list.now c.opening.ensures c.in_err-opening.was)
    record { answer = refl; memory = refl }

pub area_size-size-requires : goal.area_size-size-requires
area_size-size-requires c =
    let a = c.args in
    let r = release_of a.number a.desk.now in
    let passed = opening_facts (lent a.directory) a.memory.now a.card r a.list.now c.opening.ensures c.in_ok-opening.was in
    omega (arith, (valid_rack passed.runs.fits).within.pages_most)

pub open_release-requires : goal.open_release-requires
open_release-requires c =
    let a = c.args in
    let d = lent a.directory in
    let r = release_of a.number a.desk.now in
    let passed = opening_facts d a.memory.now a.card r a.list.now c.opening.ensures c.in_ok-opening.was in
    let area = area_in _ passed.below (valid_rack passed.runs.fits).within.whole in
    let few = allowed_few d.pages a.list.now passed.allowed in
    let eight : length a.desk.now ≡ 8 = search rules in
    rw c.area_size-size.ensures record { area_in = area; pages_start_le_size = (omega arith, eight, few) }

pub returns : goal.returns
returns c =
    let a = c.args in
    let r = release_of a.number a.desk.now in
    let stored = rw c.area_size-size.ensures at c.open_release.ensures in
    rw (opening-accepted (lent a.directory) a.memory.now a.card r a.list.now c.opening.ensures c.in_ok-opening.was)
    record { answer = refl; memory = stored }
