-- `outputs::composite_cell` meets its contract.
use mathlib.Core.Path.{◌∙◌}
use Rattle.outputs.proofs.First.{flat-is, boxed-is}
use Rattle.outputs.proofs.composite_cell.Goals as goal

pub returns-then-ins-eq0 : goal.returns-then-ins-eq0
returns-then-ins-eq0 c = c.construction.ensures ∙ rw c.constructed_at.ensures (flat-is _ _ _ c.requires.looking _ c.requires.t_value c.if-ins-eq0.true)

pub returns : goal.returns
returns c = c.made.ensures ∙ rw c.body.ensures (boxed-is _ _ _ c.requires.looking _ c.requires.t_value c.if-ins-eq0.false)
