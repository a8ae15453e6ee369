-- `inspected` meets its contract: nothing was found before the instruction that is looked at.
use Prim.Native.Nat.{◌<◌}
use native.Mathlib.Omega.{arith}
use lib.ListN.{length}
use Rattle.definition.specs.Module.{module_of}
use Rattle.form_laws.specs.Good.{chunk_no}
use Rattle.layout.proofs.Read.{count-is, row-known}
use Rattle.rounds.proofs.inspecting.Fault.{fault-start, fault-next, fault-found, fault-end, row_read, fault-of}
use Rattle.rounds.proofs.inspecting.inspected.Goals as goal

pub chunk_at-ch-requires : goal.chunk_at-ch-requires
chunk_at-ch-requires c = record { indexed = c.requires.indexed; c_in_bounds = c.requires.c_in_bounds }

pub loop-i-init : goal.loop-i-init
loop-i-init c = fault-start c.args.s.now c.args.ws.now c.args.c

pub instr_of-ins-requires : goal.instr_of-ins-requires
instr_of-ins-requires c = record { indexed = c.requires.indexed; c_in_bounds = c.requires.c_in_bounds; ch_value = c.chunk_at-ch.ensures; i_lt_count = omega arith }

pub row_at-requires : goal.row_at-requires
row_at-requires c =
    let r = row-known c.args.s.now c.args.ws.now c.args.c c.chunk_at-ch.result c.loop-i.i c.requires.indexed c.requires.c_in_bounds c.chunk_at-ch.ensures (omega arith) in
    omega (arith, r.at, r.small)

pub inspection_fault-n-requires : goal.inspection_fault-n-requires
inspection_fault-n-requires c =
    rw c.row_at.ensures
    (row_read c.args.s.now c.args.ws.now c.args.c c.chunk_at-ch.result c.loop-i.i c.requires.indexed c.requires.c_in_bounds c.chunk_at-ch.ensures (omega arith) c.requires.low)

pub refuse-requires : goal.refuse-requires
refuse-requires c =
    let g = c.requires.indexed.good in record { chunk_bound = omega (arith, c.requires.c_in_bounds, g.chunks_most); at_bound = omega (arith, count-is c.args.s.now c.args.ws.now c.args.c c.chunk_at-ch.result c.chunk_at-ch.ensures, (g.each_chunk c.args.c c.requires.c_in_bounds).code) }

pub returns-then-n-ne0 : goal.returns-then-n-ne0
returns-then-n-ne0 c =
    let n : c.loop-i.i < length (chunk_no (module_of c.args.s.now) c.args.c).code = omega (arith, count-is c.args.s.now c.args.ws.now c.args.c c.chunk_at-ch.result c.chunk_at-ch.ensures) in
    fault-found c.args.s.now c.args.ws.now c.args.c c.loop-i.i c.inspection_fault-n.result n c.loop-i.invariant
    (fault-of c.args.s.now c.args.ws.now c.args.c c.chunk_at-ch.result c.loop-i.i c.row_at.result c.instr_of-ins.result c.inspection_fault-n.result c.chunk_at-ch.ensures c.row_at.ensures c.instr_of-ins.ensures c.inspection_fault-n.ensures)
    c.args.steps c.refuse.result c.if-n-ne0.true c.refuse.ensures

pub loop-i-preserved : goal.loop-i-preserved
loop-i-preserved c =
    let n : c.loop-i.i < length (chunk_no (module_of c.args.s.now) c.args.c).code = omega (arith, count-is c.args.s.now c.args.ws.now c.args.c c.chunk_at-ch.result c.chunk_at-ch.ensures) in
    fault-next c.args.s.now c.args.ws.now c.args.c c.loop-i.i c.inspection_fault-n.result n c.loop-i.invariant
    (fault-of c.args.s.now c.args.ws.now c.args.c c.chunk_at-ch.result c.loop-i.i c.row_at.result c.instr_of-ins.result c.inspection_fault-n.result c.chunk_at-ch.ensures c.row_at.ensures c.instr_of-ins.ensures c.inspection_fault-n.ensures)
    c.if-n-ne0.false

pub returns : goal.returns
returns c =
    fault-end c.args.s.now c.args.ws.now c.args.c c.loop-i.i c.args.steps c.loop-i.invariant
    (omega (arith, count-is c.args.s.now c.args.ws.now c.args.c c.chunk_at-ch.result c.chunk_at-ch.ensures))
