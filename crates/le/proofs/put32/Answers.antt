-- `le::put32` meets its contract.
use Rattle.std.proofs.Common.{◌≡◌, ◌/◌, ◌%◌}
use native.Mathlib.Omega.{arith}
use Rattle.le.specs.Le.{le32}
use Rattle.le.proofs.put32.Goals as goal

pub returns : goal.returns
unfolding le32
returns c = let last : c.args.x / 16777216 % 256 ≡ c.args.x / 16777216 = omega (arith, c.ranges.x.fits) in rw (rw last at c.to_le_bytes.ensures) at c.put.ensures
