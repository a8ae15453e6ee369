use mathlib.Core.Path.{◌∙◌}
use Rattle.definition.specs.Outputs.{no_cell}
use Rattle.visit.proofs.Args.{operand-there, operand-none}
use Rattle.visit.proofs.operand.Goals as goal

pub returns-then-v-k : goal.returns-then-v-k
returns-then-v-k c = c.load.ensures ∙ rw c.place_at.ensures (operand-there _ _ _ c.if-v-k.true)

pub returns : goal.returns
unfolding no_cell
returns c = c.made.ensures ∙ operand-none _ _ _ c.if-v-k.false
