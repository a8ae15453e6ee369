-- `form_rules::instrs::instr_fault` meets its contract.
use mathlib.Core.Bool.{not, ◌||◌}
use lib.Dec.{eqb, ltb}
use Rattle.definition.specs.Form.{instr_fault}
use borrow.Author.Tests.{ltb-false}
use native.Mathlib.Omega.{arith}
use Rattle.masks.proofs.Both.{neither}
use Rattle.form_rules.proofs.instrs.instr_fault.Goals as goal

pub returns-then-due-len : goal.returns-then-due-len
unfolding instr_fault
returns-then-due-len c = rw c.if-due-len.true

pub known_fault-requires : goal.known_fault-requires
known_fault-requires c =
    let a = c.args in
    omega (arith, ltb-false 65 a.i.op (neither (not a.due || not (eqb a.len 15)) (ltb 65 a.i.op) c.if-due-len.false).1)

pub returns : goal.returns
unfolding instr_fault
returns c = rw c.if-due-len.false (cc)
