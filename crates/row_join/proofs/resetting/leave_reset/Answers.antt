-- `row_join::resetting::leave_reset` meets its contract: the outputs, then the locals.
use Rattle.row_join.proofs.joining.Left.{reset-left}
use Rattle.row_join.proofs.resetting.leave_reset.Goals as goal

pub returns : goal.returns
returns c = reset-left c.requires c.args.fresh _ _ c.load-reply.result _ _ c.load-reply.ensures c.put_outputs-a.ensures c.reset_locals-b.ensures
