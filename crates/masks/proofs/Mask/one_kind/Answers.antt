-- `masks::Mask::one_kind` meets its contract.
use Rattle.masks.specs.Mask.{one_kind}
use Rattle.masks.proofs.Mask.one_kind.Goals as goal

pub returns : goal.returns
unfolding one_kind
returns c = rw c.kind-folded.ensures
