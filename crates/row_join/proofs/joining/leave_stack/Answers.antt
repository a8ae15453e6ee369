-- `rows::leave_stack` meets its contract: what is kept, then the outputs.
use Rattle.row_join.proofs.joining.Left.{stack-arrived}
use native.Mathlib.Omega.{arith}
use Rattle.layout.specs.Layout.{stack_at}
use Rattle.row_join.proofs.joining.leave_stack.Goals as goal

pub overflow_sub-l : goal.overflow_sub-l
overflow_sub-l c = c.requires.start_le_height.0

pub put_outputs-b-requires : goal.put_outputs-b-requires
put_outputs-b-requires c = omega (arith, c.requires.start_le_height, c.keep_all-a.auto.ws)

pub returns : goal.returns
returns c =
    let a = c.args in
    stack-arrived a.l a.w.narrow a.fresh (stack_at a.w.from) (stack_at a.w.to) a.w.start a.ws.now _ _ _ _ c.requires.start_le_height.0 c.keep_all-a.ensures c.put_outputs-b.ensures
