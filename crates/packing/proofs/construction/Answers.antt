-- `packing::construction` meets its contract.
use native.Mathlib.Omega.{arith}
use lib.Count.{trailing_le}
use Rattle.packing.proofs.Index.{kind-index}
use Rattle.packing.specs.Packing.{construction}
use Rattle.packing.proofs.construction.Goals as goal

pub overflow_sub-index : goal.overflow_sub-index
overflow_sub-index c = rw c.body-mask.ensures (kind-index _).0

pub overflow_cast-index : goal.overflow_cast-index
overflow_cast-index c = omega (arith, trailing_le 16 c.body-mask.result.bits)

pub offset_bounds-bodies-index : goal.offset_bounds-bodies-index
offset_bounds-bodies-index c = omega (arith, trailing_le 16 c.body-mask.result.bits)

pub bounds-bodies-index : goal.bounds-bodies-index
bounds-bodies-index c = rw c.body-mask.ensures (omega (arith, kind-index c.args.kind))

pub returns : goal.returns
unfolding construction
returns c = rw (c.exact_width.ensures, c.body-mask.ensures)
