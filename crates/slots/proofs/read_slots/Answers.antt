-- `slots::read_slots` meets its contract.
use native.Mathlib.Omega.{arith}
use mathlib.Core.Path.{sym, ◌∙◌}
use Rattle.definition.specs.Data.{read_slots}
use Rattle.slots.proofs.read_slots.Goals as goal

pub slot_placed-requires : goal.slot_placed-requires
slot_placed-requires c = record { indexed = c.requires.indexed; t_value = c.requires.t_value; slot_le_slots = omega (arith, c.requires.first_le_end) }

pub returns-then-slot_placed : goal.returns-then-slot_placed
unfolding read_slots
returns-then-slot_placed c =
    rw (sym c.slot_placed.ensures ∙ c.if-slot_placed.true)
    (c.read_private.ensures ∙ rw (c.kinds_in-m.ensures, c.flow_in.ensures))

pub returns : goal.returns
unfolding read_slots
returns c =
    rw (sym c.slot_placed.ensures ∙ c.if-slot_placed.false)
    (c.fresh.ensures ∙ rw (c.kinds_in-m.ensures, c.width_in.ensures))
