-- `call::analyzing::decide_run` meets its contract.
use mathlib.Core.Path.{refl}
use Rattle.std.proofs.Common.{◌≡◌, Err, rules}
use Rattle.call.proofs.analyzing.Laws.{run-ready, reached-early, reached-stopped, reached-done}
use Rattle.call.proofs.analyzing.decide_run.Goals as goal

pub run-requires : goal.run-requires
run-requires c =
    let p = run-ready _ _ _ _ _ c.start.ensures c.in_ok-reply.was in
    record { prepared = p.0; false_value = p.1; t_value = c.requires.t_value }

pub returns-in_err-reply : goal.returns-in_err-reply
returns-in_err-reply c =
    let e : c.from_residual.result ≡ Err c.in_err-reply.field-0.0 = search rules in
    rw e (reached-early _ _ _ _ _ _ _ c.start.ensures c.in_err-reply.was)

pub returns-in_err-steps : goal.returns-in_err-steps
returns-in_err-steps c =
    let e : c.from_residual-in_err-steps.result ≡ Err c.in_err-steps.field-0.0 = search rules in
    rw e (reached-stopped _ _ _ _ _ _ _ _ _ c.start.ensures c.in_ok-reply.was c.run.ensures refl _ c.in_err-steps.was)

pub returns : goal.returns
returns c =
    reached-done _ _ _ _ _ _ _ _ _ c.start.ensures c.in_ok-reply.was c.run.ensures refl _ c.in_ok-steps.was
