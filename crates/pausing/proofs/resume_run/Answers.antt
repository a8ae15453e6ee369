-- `pausing::resume_run` meets its contract.
use mathlib.Core.Path.{sym, ◌∙◌}
use Rattle.pausing.proofs.Calls.{room-early, resumed-early}
use Rattle.pausing.proofs.resume_run.Goals as goal

pub resume_in-requires : goal.resume_in-requires
resume_in-requires c = sym c.check_room.ensures ∙ c.in-Ok.is

pub returns-in-Err : goal.returns-in-Err
returns-in-Err c =
    resumed-early _ _ _ _ _ _ _ (sym c.check_room.ensures ∙ c.in-Err.is) (room-early _ _ _ _ c.check_room.ensures c.in-Err.is)
