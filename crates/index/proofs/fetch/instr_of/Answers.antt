-- `index::fetch::instr_of` meets its contract.
use mathlib.Core.Path.{sym, ap, ◌∙◌}
use Rattle.description.specs.Fields.{instr_of}
use Rattle.layout.proofs.Read.{row-known, field-small, instr-is}
use native.Mathlib.Omega.{arith}
use Rattle.index.proofs.fetch.instr_of.Goals as goal

pub field_of-requires : goal.field_of-requires
field_of-requires c =
    let p = c.requires in
    record { indexed = p.indexed; c_in_bounds = omega arith; ch_value = p.ch_value; i_lt_count = omega arith }

pub read_instr-requires : goal.read_instr-requires
read_instr-requires c =
    let a = c.args in
    let p = c.requires in
    let r = row-known a.s.now a.ws.now a.c a.ch a.i p.indexed p.c_in_bounds p.ch_value p.i_lt_count in
    omega (arith, p.indexed.good.long, field-small a.s.now a.c p.c_in_bounds a.i r.there)

pub returns : goal.returns
returns c =
    let a = c.args in
    let p = c.requires in
    let r = row-known a.s.now a.ws.now a.c a.ch a.i p.indexed p.c_in_bounds p.ch_value p.i_lt_count in
    c.read_instr.ensures
    ∙ ap (instr_of a.s.now) c.field_of.ensures
    ∙ sym (instr-is a.s.now a.c p.c_in_bounds a.i r.there)
