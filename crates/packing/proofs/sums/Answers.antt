-- `packing::sums` meets its contract.
use lib.Dec.{ltb}
use native.Mathlib.Omega.{arith}
use Rattle.masks.proofs.Both.{both}
use borrow.Author.Tests.{ltb-true}
use Rattle.packing.proofs.sums.Goals as goal

pub overflow_cast-result : goal.overflow_cast-result
overflow_cast-result c = omega (arith, ltb-true c.args.low 4294967296 (both (ltb c.args.low 4294967296) (ltb c.args.high 4294967296) c.if-low-high.true).0)

pub overflow_cast-result-then-low-high : goal.overflow_cast-result-then-low-high
overflow_cast-result-then-low-high c = omega (arith, ltb-true c.args.high 4294967296 (both (ltb c.args.low 4294967296) (ltb c.args.high 4294967296) c.if-low-high.true).1)

pub returns-then-low-high : goal.returns-then-low-high
returns-then-low-high c = rw c.if-low-high.true

pub returns-else-low-high : goal.returns-else-low-high
returns-else-low-high c = rw c.if-low-high.false
