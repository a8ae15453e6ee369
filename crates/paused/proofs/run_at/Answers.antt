-- `paused::run_at` meets its contract.
use native.Mathlib.Omega.{arith}
use Rattle.paused.specs.Stored.{run_in}
use Rattle.paused.proofs.run_at.Goals as goal

pub overflow_cast-result : goal.overflow_cast-result
overflow_cast-result c = omega (arith, c.shared_slice_known-3-1.given 18)

pub returns : goal.returns
unfolding run_in
returns c = cc
