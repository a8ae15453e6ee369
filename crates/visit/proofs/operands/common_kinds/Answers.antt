-- `visit::operands::common_kinds` meets its contract.
use Prim.Native.Nat.{◌-◌}
use mathlib.Core.Path.{ap, ◌∙◌}
use native.Mathlib.Omega.{arith}
use Rattle.definition.specs.Outputs.{common_kinds}
use Rattle.visit.proofs.operands.Turns.{rest_all, common-turn, common-end}
use Rattle.visit.proofs.operands.common_kinds.Goals as goal

pub loop-p-init : goal.loop-p-init
loop-p-init c = ap (common_kinds _) (rest_all _ _)

pub loop-p-preserved : goal.loop-p-preserved
loop-p-preserved c = rw (c.common-m.ensures, c.kind.ensures, c.mask_at-x.ensures, c.place_at.ensures) (common-turn _ _ _ _ c.loop-p-test.true ∙ c.loop-p.invariant)

pub returns : goal.returns
returns c = common-end _ _ _ _ c.loop-p-test.false ∙ c.loop-p.invariant
