-- `start::admitting::fault` meets its contract.
use Rattle.start.proofs.admitting.fault.Goals as goal

pub returns-then-ch : goal.returns-then-ch
returns-then-ch c = rw c.if-ch.true c.admission.ensures

pub returns : goal.returns
returns c = rw c.if-ch.false
