-- Rests on `source_fits`: within the limits the source has its places.
use mathlib.Core.Path.{sym, ◌∙◌}
use Rattle.mover.proofs.Limits.{source_fits}
use Rattle.mover.proofs.move_checks.check_source.Goals as goal

pub unfit_at-requires : goal.unfit_at-requires
unfit_at-requires c =
    rw c.places-at.ensures
    (source_fits c.args.from c.args.directory.header _ _ _ c.requires
    (sym c.outside_limits.ensures ∙ c.if-outside_limits.false))

pub any_open-requires : goal.any_open-requires
any_open-requires c =
    rw c.places-at.ensures
    (source_fits c.args.from c.args.directory.header _ _ _ c.requires
    (sym c.outside_limits.ensures ∙ c.if-outside_limits.false))
