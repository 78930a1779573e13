-- Rests on what the checks come to: a refused move changes nothing.
use mathlib.Core.Path.{refl}
use Rattle.std.proofs.lemmas.Result.{err_from_is_err_and}
use Rattle.directory.specs.Lent.{lent}
use Rattle.mover.proofs.Results.{move_refused, move_accepted, move_lengths}
use Rattle.mover.proofs.move_from.Goals as goal

pub returns-in_err-check_move : goal.returns-in_err-check_move
returns-in_err-check_move c =
    let a = c.args in
    let p = err_from_is_err_and c.from_residual.result c.from_residual.ensures.1 in
    rw (
      p.1,
      p.2,
      move_refused a.from (lent a.directory) a.source.now a.target.now c.check_move.ensures c.in_err-check_move.was,
    )
    record { answer = refl; memory = refl }

pub move_memory-requires : goal.move_memory-requires
move_memory-requires c =
    let a = c.args in
    move_lengths a.from (lent a.directory) a.source.now a.target.now c.check_move.ensures c.in_ok-check_move.was

pub returns : goal.returns
returns c =
    let a = c.args in
    rw (move_accepted a.from (lent a.directory) a.source.now a.target.now c.check_move.ensures c.in_ok-check_move.was)
    record { answer = refl; memory = c.move_memory.ensures }
