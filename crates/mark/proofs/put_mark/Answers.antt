use Rattle.std.proofs.Common.{rules}
use Rattle.mark.proofs.Putting.{put-over}
use Rattle.mark.proofs.put_mark.Goals as goal

pub returns : goal.returns
returns c = put-over _ _ _ _ (search rules) c.sum_of-others.ensures c.wrapping_sub_u32.ensures.value
