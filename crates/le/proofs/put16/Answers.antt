-- `le::put16` meets its contract.
use Rattle.std.proofs.Common.{◌≡◌, ◌/◌, ◌%◌}
use native.Mathlib.Omega.{arith}
use Rattle.le.specs.Le.{le16}
use Rattle.le.proofs.put16.Goals as goal

pub returns : goal.returns
unfolding le16
returns c = let last : c.args.x / 256 % 256 ≡ c.args.x / 256 = omega (arith, c.ranges.x.fits) in rw (rw last at c.to_le_bytes.ensures) at c.put.ensures
