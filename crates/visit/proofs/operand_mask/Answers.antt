use mathlib.Core.Path.{ap, ◌∙◌}
use Rattle.cells.specs.declared.Cell.{Cell}
use Rattle.visit.proofs.Args.{operand-there, operand-none, none-mask}
use Rattle.visit.proofs.operand_mask.Goals as goal

pub returns-then-v-k : goal.returns-then-v-k
returns-then-v-k c = c.mask_at.ensures ∙ rw c.place_at.ensures (ap (λ (x : Cell). x.mask) (operand-there _ _ _ c.if-v-k.true))

pub returns : goal.returns
returns c = none-mask ∙ ap (λ (x : Cell). x.mask) (operand-none _ _ _ c.if-v-k.false)
