-- Rests on check 1: a refused formatting leaves the memory, an accepted one has cards to give homes to.
use mathlib.Core.Path.{refl, sym, ◌∙◌}
use borrow.Author.Rules.{rules}
use Rattle.memory.specs.Words.{zeros}
use Rattle.protocol.specs.Checks.{first_refusal}
use Rattle.protocol.specs.Formatting.{formatting}
use Rattle.protocol.proofs.checks.Limits.{within_limits}
use Rattle.rack.proofs.format_rack.Goals as goal

pub returns-then-outside_limits : goal.returns-then-outside_limits
unfolding formatting first_refusal zeros
returns-then-outside_limits c =
    let out = sym c.outside_limits.ensures ∙ c.if-outside_limits.true in
    rw out record { answer = refl; directory = c.empty.ensures; memory = refl }

pub formatted-requires : goal.formatted-requires
formatted-requires c =
    let within = within_limits _ _ _ (sym c.outside_limits.ensures ∙ c.if-outside_limits.false) in
    search rules

pub returns : goal.returns
unfolding formatting first_refusal zeros
returns c =
    let inside = sym c.outside_limits.ensures ∙ c.if-outside_limits.false in
    rw inside record { answer = refl; directory = c.formatted.ensures; memory = search rules }
