-- `pausing::reaching::begin` meets its contract.
use native.Mathlib.Omega.{arith}
use Rattle.pausing.proofs.reaching.Functions.{started-ready, ran-ready, begun-refused, begun-ran}
use Rattle.pausing.proofs.reaching.begin.Goals as goal

pub run_first-ran-requires : goal.run_first-ran-requires
run_first-ran-requires c =
    let z = started-ready _ _ _ _ c.in-Ok.reply c.in-Ok.is c.start.ensures in
    record { prepared = z.0; false_value = z.1; t_value = c.requires.t_value }

pub stage_of-requires : goal.stage_of-requires
stage_of-requires c =
    record { ran_ready = ran-ready _ _ _ _ _ _ _ c.run_first-ran.ensures; t_value = c.requires.t_value }

pub returns-in-Err : goal.returns-in-Err
returns-in-Err c =
    begun-refused _ _ _ _ _ c.in-Err.refusal c.in-Err.is c.start.ensures (omega (arith, c.start.auto))

pub returns-in-Ok : goal.returns-in-Ok
returns-in-Ok c =
    begun-ran _ _ _ _ _ _ _ c.in-Ok.reply _ _ c.in-Ok.is c.start.ensures (omega (arith, c.ranges)) c.run_first-ran.ensures c.stage_of.ensures (omega (arith, c.stage_of.auto, c.run_first-ran.auto, c.start.auto))
