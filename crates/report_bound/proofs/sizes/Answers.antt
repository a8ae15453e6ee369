-- `report_bound::sizes` meets its contract.
use native.Mathlib.Omega.{arith}
use mathlib.Core.Path.{sym}
use Rattle.std.proofs.lemmas.Result.{err_from_is_err_and}
use Rattle.report_bound.proofs.Lends.{short, small, lends, lends_nothing}
use Rattle.report_bound.proofs.sizes.Goals as goal

pub overflow_add-result : goal.overflow_add-result
overflow_add-result c = omega (arith, small c.args.description.now _ (sym c.in_ok-w.ensures))

pub most_report-requires : goal.most_report-requires
most_report-requires c = short c.args.description.now _ (sym c.in_ok-w.ensures)

pub returns-in_err-w : goal.returns-in_err-w
returns-in_err-w c =
    let p = err_from_is_err_and c.from_residual.result c.from_residual.ensures.1 in
    rw (p.1, p.2) (lends_nothing _ _ (sym c.in_err-w.ensures))

pub returns : goal.returns
returns c = lends _ _ (sym c.in_ok-w.ensures) _ c.most_report.ensures
