-- `row_join::joining::leave_kept` meets its contract: the stack, then the locals, which are read after it.
use Rattle.row_join.proofs.joining.Left.{stack_places, locals-places, kept-left}
use native.Mathlib.Omega.{arith}
use Rattle.row_join.proofs.joining.leave_kept.Goals as goal

pub leave_stack-a-requires : goal.leave_stack-a-requires
leave_stack-a-requires c =
    let r = c.requires.join_ready in
    record { places_apart = stack_places r c.requires.resets_value; start_le_height = (r.above c.requires.resets_value, omega (arith, r.to, r.height)) }

pub keep_locals-b-requires : goal.keep_locals-b-requires
keep_locals-b-requires c = locals-places c.requires.join_ready _ c.leave_stack-a.auto.ws

pub returns : goal.returns
returns c =
    let a = c.args in
    kept-left c.requires.join_ready a.fresh _ _ c.set_on_way-set.result _ _ c.set_on_way-set.ensures c.leave_stack-a.ensures c.keep_locals-b.ensures
