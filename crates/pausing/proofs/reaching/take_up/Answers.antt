-- `pausing::reaching::take_up` meets its contract.
use native.Mathlib.Omega.{arith}
use Rattle.pausing.proofs.reaching.Functions.{rebuilt-ready, taken_refused, taken-on}
use Rattle.pausing.proofs.reaching.take_up.Goals as goal

pub go_on-requires : goal.go_on-requires
go_on-requires c =
    let z = rebuilt-ready _ _ _ _ c.restart.ensures c.in-Ok.reply c.in-Ok.is in
    record { prepared = z.0; running = z.2; t_value = c.requires.t_value }

pub returns-in-Err : goal.returns-in-Err
returns-in-Err c =
    taken_refused _ _ _ _ c.restart.ensures _ c.in-Err.refusal c.in-Err.is (omega (arith, c.restart.auto))

pub returns-in-Ok : goal.returns-in-Ok
returns-in-Ok c =
    taken-on _ _ _ _ c.restart.ensures _ c.in-Ok.reply _ _ c.in-Ok.is c.go_on.ensures
