-- `report_bound::record_most` meets its contract.
use native.Mathlib.Omega.{arith}
use Rattle.report_bound.proofs.Cases.{record_is}
use Rattle.report_bound.proofs.record_most.Goals as goal

pub returns : goal.returns
returns c =
    let a = c.args in
    let x = c.rule_of-rule in
    let k = c.is_reset in
    let n = c.highest-highest in
    let h = c.least-stack in
    let g = c.most_guards-guards in
    let e = record_is a.w.locals a.w.stack a.w.height a.w.entry a.i x.result x.ensures k.result n.result h.result g.result k.ensures n.ensures.0 h.ensures.0 g.ensures.0 in
    -- the bounds of the arguments lie further back than `omega` looks
    let b = c.before.before.before.before.before.before.before.before.before.before.well_formed in
    (e, omega (arith, b, g.ensures.1, h.ensures.2, n.ensures.1))
