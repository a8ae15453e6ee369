-- `pausing::reaching::total` meets its contract.
use native.Mathlib.Omega.{arith}
use Rattle.pausing.proofs.reaching.Functions.{total-capped, total-summed}
use Rattle.pausing.proofs.reaching.total.Goals as goal

pub returns-then-steps-allowance : goal.returns-then-steps-allowance
returns-then-steps-allowance c =
    total-capped _ _ (omega (arith, c.ranges)) c.if-steps-allowance.true

pub returns : goal.returns
returns c =
    total-summed _ _ (omega (arith, c.ranges)) c.if-steps-allowance.false
