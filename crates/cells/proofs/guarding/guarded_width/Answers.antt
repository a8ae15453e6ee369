-- `cells::guarding::guarded_width` meets its contract.
use native.Mathlib.Omega.{arith}
use lib.Count.{trailing_le}
use Rattle.cells.proofs.BodyIndex.{body-index}
use Rattle.cells.specs.Cell.{guarded_width}
use Rattle.cells.proofs.guarding.guarded_width.Goals as goal

pub overflow_sub-index : goal.overflow_sub-index
overflow_sub-index c = (body-index _ _ _ _ (omega arith) c.kind-folded.ensures c.one_kind.ensures c.has.ensures c.if-one_kind-has.true).0

pub overflow_cast-index : goal.overflow_cast-index
overflow_cast-index c = omega (arith, trailing_le 16 c.kind-folded.result.bits)

pub body_width-requires : goal.body_width-requires
body_width-requires c = omega (arith, body-index _ _ _ _ (omega arith) c.kind-folded.ensures c.one_kind.ensures c.has.ensures c.if-one_kind-has.true)

pub returns-then-one_kind-has : goal.returns-then-one_kind-has
unfolding guarded_width
returns-then-one_kind-has c = rw (← c.kind-folded.ensures, ← c.one_kind.ensures, ← c.has.ensures, c.if-one_kind-has.true) c.body_width.ensures

pub returns : goal.returns
unfolding guarded_width
returns c = rw (← c.kind-folded.ensures, ← c.one_kind.ensures, ← c.has.ensures, c.if-one_kind-has.false) c.scalar_width.ensures
