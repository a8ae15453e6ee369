use Rattle.std.proofs.Common.{◌∙◌, rules}
use Rattle.mark.proofs.Sums.{sum-none, sum_more}
use Rattle.mark.proofs.sum_of.Goals as goal

pub loop-word-init : goal.loop-word-init
loop-word-init c = sum-none c.args.ws.now

pub loop-word-preserved : goal.loop-word-preserved
loop-word-preserved c = c.wrapping_add_u32-total.ensures.value ∙ sum_more _ _ _ (search rules) c.loop-word.invariant
