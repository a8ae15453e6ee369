-- `outputs::result_cell` meets its contract.
use native.Mathlib.Omega.{arith}
use Rattle.definition.specs.Module.{module_of}
use Rattle.layout.proofs.Read.{result-is}
use Rattle.layout.proofs.Apart.{result-in}
use Rattle.outputs.proofs.result_cell.Goals as goal

pub result_at-requires : goal.result_at-requires
result_at-requires c =
    let a = c.args in
    let n = a.v.ins.a in
    let r = result-is a.s.now a.ws.now n c.chunk_at.result c.chunk_at.ensures in
    let w = result-in (module_of a.s.now) n c.requires.a_in_bounds in
    omega (arith, c.requires.indexed.good.small)

pub load-requires : goal.load-requires
load-requires c =
    let a = c.args in
    let n = a.v.ins.a in
    let r = result-is a.s.now a.ws.now n c.chunk_at.result c.chunk_at.ensures in
    let w = result-in (module_of a.s.now) n c.requires.a_in_bounds in
    omega (arith, c.requires.indexed.room)

pub returns : goal.returns
returns c =
    let a = c.args in
    cc (result-is a.s.now a.ws.now a.v.ins.a c.chunk_at.result c.chunk_at.ensures)
