-- `fact_join::write_slot` meets its contract, by the three kinds of slot.
use mathlib.Core.Path.{sym, ◌∙◌}
use native.Mathlib.Omega.{arith}
use lib.ListN.{length}
use borrow.Author.Tests.{le-leb, lt-leb}
use Rattle.definition.specs.Module.{module_of}
use Rattle.fact_join.proofs.Slots.{body-taken, private-taken, shared-taken}
use Rattle.layout.proofs.Read.{shared-are, slot-known}
use Rattle.fact_join.proofs.write_slot.Goals as goal

pub slot_at-at-requires : goal.slot_at-at-requires
slot_at-at-requires c =
    let a = c.args in
    let r = slot-known a.s.now a.ws.now a.t a.slot c.requires.indexed c.requires.t_value c.requires.slot_lt_slots in
    omega arith

pub slot_placed-requires : goal.slot_placed-requires
slot_placed-requires c =
    record { indexed = c.requires.indexed; t_value = c.requires.t_value; slot_le_slots = omega (arith, c.requires.slot_lt_slots) }

pub add_write-requires : goal.add_write-requires
add_write-requires c =
    let a = c.args in
    let r = slot-known a.s.now a.ws.now a.t a.slot c.requires.indexed c.requires.t_value c.requires.slot_lt_slots in
    omega (arith, c.slot_at-at.ensures)

pub join_private-requires : goal.join_private-requires
join_private-requires c =
    let a = c.args in
    let r = slot-known a.s.now a.ws.now a.t a.slot c.requires.indexed c.requires.t_value c.requires.slot_lt_slots in
    omega (arith, c.slot_at-at.ensures, c.add_write.auto.ws)

pub returns-then-slot_placed : goal.returns-then-slot_placed
returns-then-slot_placed c =
    let a = c.args in
    let r = slot-known a.s.now a.ws.now a.t a.slot c.requires.indexed c.requires.t_value c.requires.slot_lt_slots in
    let e = c.slot_at-at.ensures ∙ r.at in
    body-taken a.s.now a.ws.now a.slot a.value a.changed _ _ _ r.there (sym c.slot_placed.ensures ∙ c.if-slot_placed.true)
    (rw e at c.add_write.ensures)
    (rw e at c.join_private.ensures)

pub add_write-requires-then-t-slot : goal.add_write-requires-then-t-slot
add_write-requires-then-t-slot c =
    let a = c.args in
    let r = slot-known a.s.now a.ws.now a.t a.slot c.requires.indexed c.requires.t_value c.requires.slot_lt_slots in
    omega (arith, c.slot_at-at.ensures)

pub returns-then-t-slot : goal.returns-then-t-slot
returns-then-t-slot c =
    let a = c.args in
    let r = slot-known a.s.now a.ws.now a.t a.slot c.requires.indexed c.requires.t_value c.requires.slot_lt_slots in
    private-taken a.s.now a.ws.now a.slot a.value a.changed _ r.there (sym c.slot_placed.ensures ∙ c.if-slot_placed.false)
    (le-leb (length (module_of a.s.now).shared) a.slot (omega (arith, shared-are a.s.now a.t c.requires.t_value, c.if-t-slot.true)))
    (rw (c.slot_at-at.ensures ∙ r.at) at c.add_write-then-t-slot.ensures)

pub returns : goal.returns
returns c =
    let a = c.args in
    shared-taken a.s.now a.ws.now a.slot a.value a.changed (sym c.slot_placed.ensures ∙ c.if-slot_placed.false)
    (lt-leb (length (module_of a.s.now).shared) a.slot (omega (arith, shared-are a.s.now a.t c.requires.t_value, c.if-t-slot.false)))
