use Rattle.run.proofs.Ways.{settled_here, settled_on}
use native.Mathlib.Omega.{arith}
use Rattle.run.proofs.settled.Goals as goal

pub returns-then-queue-gt0 : goal.returns-then-queue-gt0
returns-then-queue-gt0 c =
    settled_here _ _ _ c.requires.between c.if-queue-gt0.true

pub returns : goal.returns
returns c =
    settled_on _ _ _ _ _ (omega (arith, c.if-queue-gt0.false)) c.settle.ensures
