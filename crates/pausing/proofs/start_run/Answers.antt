-- `pausing::start_run` meets its contract.
use native.Mathlib.Omega.{arith}
use mathlib.Core.Path.{◌∙◌}
use Rattle.pausing.proofs.reaching.Staging.{stage-ready}
use Rattle.pausing.proofs.Calls.{good-room, cleared-long, room-early, started-refused, started-ran}
use Rattle.pausing.proofs.start_run.Goals as goal

pub fill-t-requires : goal.fill-t-requires
fill-t-requires c =
    let g = good-room _ _ _ _ c.check_room.ensures c.in-Ok.is in
    let l = cleared-long _ _ c.clear.ensures in
    record { good = g.0; queue_in_bounds = omega (arith, g.1, l) }

pub begin-stage-requires : goal.begin-stage-requires
begin-stage-requires c =
    let g = good-room _ _ _ _ c.check_room.ensures c.in-Ok.is in
    let l = cleared-long _ _ c.clear.ensures in
    let f = c.fill-t.ensures in
    record { indexed = f.1; fresh = f.2; s_in_bounds = omega (arith, g.2, l, f.3); t_value = f.0 }

pub close-requires : goal.close-requires
close-requires c =
    let f = c.fill-t.ensures in
    record { stage_ready = stage-ready _ _ _ _ c.begin-stage.ensures.stage; t_value = f.0 }

pub returns-in-Err : goal.returns-in-Err
returns-in-Err c =
    started-refused _ _ _ _ _ _ _ c.check_room.ensures _ c.in-Err.is (room-early _ _ _ _ c.check_room.ensures c.in-Err.is)

pub returns-in-Ok : goal.returns-in-Ok
returns-in-Ok c =
    started-ran _ _ _ _ _ _ _ c.check_room.ensures _ _ _ _ _ _ _ _ c.in-Ok.is (c.fill-t.ensures.3 ∙ cleared-long _ _ c.clear.ensures) c.begin-stage.ensures c.close.ensures
