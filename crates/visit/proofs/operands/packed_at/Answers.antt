-- `visit::operands::packed_at` meets its contract.
use Prim.Native.Nat.{◌-◌}
use mathlib.Core.Path.{◌∙◌}
use native.Mathlib.Omega.{arith}
use Rattle.visit.proofs.operands.Turns.{packed_all, packed-turn, packed-end}
use Rattle.visit.proofs.operands.packed_at.Goals as goal

pub loop-p-init : goal.loop-p-init
loop-p-init c = packed_all _ _ _ _

pub loop-p-preserved : goal.loop-p-preserved
loop-p-preserved c = rw (c.and_then-sum.ensures, c.packed_one.ensures, c.load-x.ensures, c.place_at.ensures) (packed-turn _ _ _ _ _ _ c.loop-p-test.true ∙ c.loop-p.invariant)

pub returns : goal.returns
returns c = packed-end _ _ _ _ _ _ c.loop-p-test.false ∙ c.loop-p.invariant
