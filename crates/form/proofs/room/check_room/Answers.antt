use mathlib.Core.Path.{sym, ◌∙◌}
use Rattle.std.proofs.lemmas.Result.{err_from_is_err_and}
use Rattle.form.proofs.room.Room.{room-turned, room-went}
use Rattle.form.proofs.room.check_room.Goals as goal

pub returns-in_err-w : goal.returns-in_err-w
returns-in_err-w c =
    let p = err_from_is_err_and c.from_residual.result c.from_residual.ensures.1 in
    rw (p.1, p.2) (room-turned _ _ _ (sym c.in_err-w.ensures))

pub returns : goal.returns
returns c = c.with_room.ensures ∙ room-went _ _ _ (sym c.in_ok-w.ensures)
