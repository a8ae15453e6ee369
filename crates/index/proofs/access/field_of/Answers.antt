-- `index::field_of` meets its contract.
use Rattle.layout.proofs.Read.{row-known}
use native.Mathlib.Omega.{arith}
use Rattle.index.proofs.access.field_of.Goals as goal

pub row_at-requires : goal.row_at-requires
row_at-requires c =
    let a = c.args in
    let p = c.requires in
    let r = row-known a.s.now a.ws.now a.c a.ch a.i p.indexed p.c_in_bounds p.ch_value p.i_lt_count in
    omega arith

pub overflow_add-row_at : goal.overflow_add-row_at
overflow_add-row_at c =
    let a = c.args in
    let p = c.requires in
    let r = row-known a.s.now a.ws.now a.c a.ch a.i p.indexed p.c_in_bounds p.ch_value p.i_lt_count in
    omega arith

pub word-requires : goal.word-requires
word-requires c =
    let a = c.args in
    let p = c.requires in
    let r = row-known a.s.now a.ws.now a.c a.ch a.i p.indexed p.c_in_bounds p.ch_value p.i_lt_count in
    omega arith

pub returns : goal.returns
returns c =
    let a = c.args in
    let p = c.requires in
    let r = row-known a.s.now a.ws.now a.c a.ch a.i p.indexed p.c_in_bounds p.ch_value p.i_lt_count in
    cc (p.indexed.fields a.c a.i p.c_in_bounds r.there)
