-- `pausing::reaching::go_on` meets its contract.
use native.Mathlib.Omega.{arith}
use Rattle.pausing.proofs.reaching.Functions.{total-least, front-in, ran-ready, ran-kept, may-go, gone-afresh, gone-on}
use Rattle.pausing.proofs.reaching.go_on.Goals as goal

pub run_at-r-requires : goal.run_at-r-requires
run_at-r-requires c =
    front-in _ _ c.requires.prepared

pub begin_afresh-requires : goal.begin_afresh-requires
begin_afresh-requires c =
    record { good = c.requires.prepared.indexed.good; s_in_bounds = c.requires.prepared.room; t_value = c.requires.t_value }

pub returns-then-not-can_go_on : goal.returns-then-not-can_go_on
returns-then-not-can_go_on c =
    gone-afresh _ _ _ _ c.run_at-r.ensures c.can_go_on.ensures _ _ _ c.requires.prepared (c.if-not-can_go_on.true) c.begin_afresh.ensures

pub run_to-ran-requires : goal.run_to-ran-requires
run_to-ran-requires c =
    let z = may-go _ _ _ _ c.run_at-r.ensures c.can_go_on.ensures (c.if-not-can_go_on.false) in
    record { between = z.0; count_nonzero = z.1; t_value = c.requires.t_value; steps_le_limit = total-least _ _ (omega (arith, c.run_at-r.type_inv)) _ c.total.ensures }

pub stage_of-stage-requires : goal.stage_of-stage-requires
stage_of-stage-requires c =
    record { ran_ready = ran-ready _ _ _ _ _ _ _ c.run_to-ran.ensures; t_value = c.requires.t_value }

pub tested-requires : goal.tested-requires
tested-requires c =
    record { stage_ended = ran-kept _ _ _ _ _ _ _ _ _ _ c.run_to-ran.ensures c.stage_of-stage.ensures; good = c.requires.prepared.indexed.good; s_in_bounds = omega (arith, c.requires.prepared.room, c.stage_of-stage.auto, c.run_to-ran.auto); t_value = c.requires.t_value }

pub returns : goal.returns
returns c =
    gone-on _ _ _ _ _ _ _ _ _ _ _ _ c.requires.prepared c.requires.running c.run_at-r.ensures c.total.ensures c.run_to-ran.ensures c.stage_of-stage.ensures c.tested.ensures (omega (arith, c.tested.auto, c.stage_of-stage.auto, c.run_to-ran.auto))
