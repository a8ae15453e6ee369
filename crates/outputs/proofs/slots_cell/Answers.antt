-- `outputs::slots_cell` meets its contract.
use native.Mathlib.Omega.{arith}
use Rattle.slots.proofs.Faults.{listed}
use Rattle.outputs.proofs.slots_cell.Goals as goal

pub read_slots-requires : goal.read_slots-requires
read_slots-requires c = record { indexed = c.requires.indexed; t_value = c.requires.t_value; first_le_end = (omega arith, omega arith) }

pub returns : goal.returns
returns c = cc (listed _ _ _ c.slots_of.ensures.0 c.slots_of.ensures.1)
