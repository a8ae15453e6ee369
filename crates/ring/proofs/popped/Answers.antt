use Rattle.ring.proofs.popped.Goals as goal

pub returns : goal.returns
returns c = rw c.wrap.ensures
