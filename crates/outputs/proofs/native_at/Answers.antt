-- `outputs::native_at` meets its contract.
use mathlib.Core.Path.{◌∙◌}
use Rattle.outputs.proofs.First.{native-is, native-none}
use Rattle.outputs.proofs.native_at.Goals as goal

pub returns-then-i-t : goal.returns-then-i-t
returns-then-i-t c = c.native_cell.ensures ∙ rw (c.native_shape.ensures, c.snapshot.ensures) (native-is _ _ c.requires.t_value _ c.if-i-t.true)

pub returns : goal.returns
returns c = c.made.ensures ∙ native-none _ _ c.requires.t_value _ c.if-i-t.false
