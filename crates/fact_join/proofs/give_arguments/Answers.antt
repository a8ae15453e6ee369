-- `fact_join::give_arguments` meets its contract. The operands stand apart from the callee's inputs, or are read before they are written.
use mathlib.Core.Path.{◌∙◌}
use native.Mathlib.Omega.{arith}
use Rattle.fact_join.proofs.Gifts.{callee-there, callee-takes, inputs-places, args-taken}
use Rattle.fact_join.proofs.Cells.{signed, arguments-taken}
use Rattle.visit.proofs.Visits.{looking-standing}
use Rattle.layout.proofs.Read.{input-is}
use Rattle.fact_join.proofs.give_arguments.Goals as goal

pub chunk_at-callee-requires : goal.chunk_at-callee-requires
chunk_at-callee-requires c =
    let a = c.args in
    record { indexed = c.requires.looking.indexed; c_in_bounds = signed a.s.now a.ws.now c.requires.looking.indexed a.v.ins.a (callee-there a.s.now a.ws.now a.v c.requires.looking c.requires.acts_value) }

pub place_at-from-requires : goal.place_at-from-requires
place_at-from-requires c =
    let a = c.args in
    let r = looking-standing a.s.now a.ws.now a.v c.requires.looking in
    omega arith

pub input_at-to-requires : goal.input_at-to-requires
input_at-to-requires c =
    let a = c.args in
    let r = inputs-places a.s.now a.ws.now a.v c.requires.looking c.requires.acts_value c.requires.taken_le_height in
    omega (arith, r.target, input-is a.s.now a.ws.now a.v.ins.a c.chunk_at-callee.result c.chunk_at-callee.ensures 0)

pub join_facts-requires : goal.join_facts-requires
join_facts-requires c =
    let a = c.args in
    rw (c.place_at-from.ensures, c.input_at-to.ensures ∙ input-is a.s.now a.ws.now a.v.ins.a c.chunk_at-callee.result c.chunk_at-callee.ensures 0)
    (inputs-places a.s.now a.ws.now a.v c.requires.looking c.requires.acts_value c.requires.taken_le_height)

pub returns : goal.returns
returns c =
    let a = c.args in
    arguments-taken a.s.now a.ws.now _ a.v.ins.a a.v.ins.taken _ a.changed _ c.requires.looking.indexed
    (callee-there a.s.now a.ws.now a.v c.requires.looking c.requires.acts_value)
    (callee-takes a.s.now a.ws.now a.v c.requires.looking c.requires.acts_value)
    (rw (c.place_at-from.ensures, c.input_at-to.ensures ∙ input-is a.s.now a.ws.now a.v.ins.a c.chunk_at-callee.result c.chunk_at-callee.ensures 0, args-taken a.s.now a.ws.now a.v c.requires.looking c.requires.taken_le_height) at c.join_facts.ensures)
