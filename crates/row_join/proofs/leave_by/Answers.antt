-- `row_join::leave_by` meets its contract, by whether all else is dropped.
use Rattle.row_join.proofs.joining.Left.{leaves-reset, leaves_kept_lem}
use Rattle.row_join.proofs.leave_by.Goals as goal

pub returns-then-l : goal.returns-then-l
returns-then-l c =
    let a = c.args in
    rw (leaves-reset a.ws.now a.ch a.w a.l c.if-l.true) c.leave_reset.ensures

pub returns : goal.returns
returns c =
    let a = c.args in
    rw (leaves_kept_lem a.ws.now a.ch a.w a.l c.if-l.false) c.leave_kept.ensures
