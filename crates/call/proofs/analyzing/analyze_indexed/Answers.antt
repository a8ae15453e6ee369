-- `call::analyzing::analyze_indexed` meets its contract.
use Rattle.std.proofs.Common.{◌≡◌, Err, rules}
use Rattle.call.proofs.analyzing.Laws.{refused-with, may-deliver, delivered-with}
use Rattle.call.proofs.analyzing.analyze_indexed.Goals as goal

pub deliver_indexed-requires : goal.deliver_indexed-requires
deliver_indexed-requires c =
    let d = may-deliver _ _ _ _ c.decide_run.ensures _ c.in_ok-end.was in
    record { ended = d.0; faultless = d.1; t_value = c.requires.t_value }

pub returns-in_err-end : goal.returns-in_err-end
returns-in_err-end c =
    let e : c.from_residual.result ≡ Err c.in_err-end.field-0.0 = search rules in
    rw e (refused-with _ _ _ _ c.decide_run.ensures _ _ _ c.in_err-end.was)

pub returns : goal.returns
returns c =
    delivered-with _ _ _ _ c.decide_run.ensures _ c.in_ok-end.was _ _ _ _ _ c.deliver_indexed.ensures
