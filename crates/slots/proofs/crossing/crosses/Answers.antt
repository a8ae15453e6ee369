-- `slots::crossing::crosses` meets its contract.
use mathlib.Core.Path.{◌∙◌}
use Rattle.definition.specs.Module.{module_of}
use Rattle.layout.proofs.Read.{shared-are}
use Rattle.slots.proofs.Faults.{crossed-all, crossed-not}
use native.Mathlib.Omega.{arith}
use Rattle.slots.proofs.crossing.crosses.Goals as goal

pub slot_placed-requires : goal.slot_placed-requires
slot_placed-requires c =
    let p = c.requires in
    record { indexed = p.indexed; t_value = p.t_value; slot_le_slots = omega (arith, p.first_le_end) }

pub returns-then-t-r : goal.returns-then-t-r
returns-then-t-r c =
    let a = c.args in
    c.any_placed.ensures
    ∙ crossed-all (module_of a.s.now) a.r a.t.shared c.slot_placed.result (shared-are a.s.now a.t c.requires.t_value)
    c.slot_placed.ensures c.if-t-r.true

pub returns : goal.returns
returns c =
    let a = c.args in
    crossed-not (module_of a.s.now) a.r a.t.shared c.slot_placed.result (shared-are a.s.now a.t c.requires.t_value)
    c.slot_placed.ensures c.if-t-r.false
