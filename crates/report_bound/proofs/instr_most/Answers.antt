-- `report_bound::instr_most` meets its contract.
use native.Mathlib.Omega.{arith}
use mathlib.Core.Path.{sym, ◌∙◌}
use Rattle.report_bound.proofs.Cases.{instr-is, instr-none, given-fits}
use Rattle.report_bound.proofs.instr_most.Goals as goal

pub returns-then-is_unrecorded : goal.returns-then-is_unrecorded
returns-then-is_unrecorded c = (instr-none _ _ _ _ _ (sym c.is_unrecorded.ensures ∙ c.if-is_unrecorded.true), omega arith)

pub record_most-requires : goal.record_most-requires
record_most-requires c = given-fits _ _ (sym c.is_unrecorded.ensures ∙ c.if-is_unrecorded.false)

pub returns : goal.returns
returns c =
    let a = c.args in
    let e = instr-is a.w.locals a.w.stack a.w.height a.w.entry a.i c.rule_of-rule.result c.rule_of-rule.ensures c.record_most.result c.inspection_most.result c.number.result c.is_test.result (sym c.is_unrecorded.ensures ∙ c.if-is_unrecorded.false) c.record_most.ensures.0 c.inspection_most.ensures.0 c.is_test.ensures c.number.ensures.0 in
    (e, omega (arith, c.record_most.ensures.1, c.inspection_most.ensures.1, c.number.ensures.1))
