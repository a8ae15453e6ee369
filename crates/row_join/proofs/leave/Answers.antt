-- `row_join::leave` meets its contract: a row of another height stays; else the state arrives, and its height is written.
use Rattle.row_join.proofs.joining.Left.{leaves-high, meets-other, meets-level}
use native.Mathlib.Omega.{arith}
use Rattle.row_join.proofs.leave.Goals as goal

pub overflow_cast-state : goal.overflow_cast-state
overflow_cast-state c = omega (arith, c.slice_known-2-1.given c.args.w.to)

pub returns-then-state-height : goal.returns-then-state-height
returns-then-state-height c =
    let a = c.args in
    let m = meets-other a.ch a.w.to a.l.height _ a.ws.now c.if-state-height.true (leaves-high c.requires) in
    (m.state, m.how, m.out, m.field, m.word)

pub returns : goal.returns
returns c =
    let a = c.args in
    let m = meets-level a.ch a.w.to a.l.height _ a.ws.now _ _ c.requires.to _ c.if-state-height.false c.leave_by-changed.ensures c.how.ensures in
    (m.state, m.how, m.out, m.field, m.word)
