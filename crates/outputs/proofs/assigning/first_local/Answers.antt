-- `outputs::assigning::first_local` meets its contract.
use native.Mathlib.Omega.{arith}
use mathlib.Core.Path.{◌∙◌}
use Rattle.definition.specs.Outputs.{no_cell}
use Rattle.outputs.proofs.Parts.{local-small, local-room, local-there, local-none}
use Rattle.outputs.proofs.assigning.first_local.Goals as goal

pub local_at-requires : goal.local_at-requires
local_at-requires c = omega (arith, local-small _ _ _ c.requires.looking _ c.requires.ch_value 0 c.if-ch-gt0.true)

pub load-requires : goal.load-requires
load-requires c = omega (arith, local-room _ _ _ c.requires.looking _ c.requires.ch_value 0 c.if-ch-gt0.true)

pub returns-then-ch-gt0 : goal.returns-then-ch-gt0
returns-then-ch-gt0 c = c.load.ensures ∙ rw c.local_at.ensures (local-there _ _ _ c.requires.looking _ c.requires.ch_value 0 c.if-ch-gt0.true)

pub returns : goal.returns
unfolding no_cell
returns c = c.made.ensures ∙ local-none _ _ _ c.requires.looking _ c.requires.ch_value 0 c.if-ch-gt0.false
