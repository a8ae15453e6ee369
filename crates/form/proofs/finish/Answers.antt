-- `form::finish` meets its contract.
use Rattle.std.proofs.lemmas.Result.{err_from_is_err_and}
use Rattle.definition.specs.Form.{finished}
use Rattle.form.specs.late_checks.Counted.{param_list}
use Rattle.form.proofs.late_checks.Looks.{look-passed, look-refused}
use Rattle.form.proofs.finish.Goals as goal

pub returns-then-scan : goal.returns-then-scan
unfolding finished
returns-then-scan c = rw (c.if-scan.true, c.nowhere.ensures)

pub returns-in_err-late_look : goal.returns-in_err-late_look
unfolding finished param_list
returns-in_err-late_look c =
    let p = err_from_is_err_and c.from_residual.result c.from_residual.ensures.1 in
    rw (p.1, p.2, c.if-scan.false) (look-refused _ _ _ c.in_err-late_look.ensures)

pub returns : goal.returns
unfolding finished param_list
returns c = rw c.if-scan.false (look-passed _ _ _ c.in_ok-late_look.ensures)
